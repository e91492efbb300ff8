use Rattle.spec_model.proofs.UndoneEdits.{given_undone, last_undone}
use Rattle.spec_model.proofs.specification.edits_are_undone.Goals as goal

pub returns-clause-given : goal.returns-clause-given
returns-clause-given c = given_undone

pub returns-clause-rule : goal.returns-clause-rule
returns-clause-rule c = last_undone
