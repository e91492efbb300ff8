use Rattle.core_explain.proofs.Units.{none_explained, none_spent}
use Rattle.core_explain.proofs.explaining.of_contradiction.Goals as goal

pub seek-requires-clause-holds : goal.seek-requires-clause-holds
seek-requires-clause-holds g c = λ k is. c.requires.inconsistent (k, is)

pub returns-in-Ok-Needs : goal.returns-in-Ok-Needs
returns-in-Ok-Needs g c =
    none_explained c.args.spec.now c.requires.inconsistent c.args.budget _ _ c.in-Ok-Needs.field-0-is c.in-Ok-Needs.ensures

pub returns-in-Ok-Open : goal.returns-in-Ok-Open
returns-in-Ok-Open g c =
    none_spent c.args.spec.now c.requires.inconsistent c.args.budget _ c.args.question.now c.args.unit _ c.in-Ok-Open.field-0-is
    c.in-Ok-Open.ensures
