use Rattle.edit_checks.proofs.Edits.{asked_pair}
use Rattle.edit_checks.proofs.Standing.{not_asked}
use Rattle.edit_checks.proofs.pairs.can_be_asked.Goals as goal

pub returns-clause-yes : goal.returns-clause-yes
returns-clause-yes c =
    λ is.
    asked_pair c.args.spec.now c.args.rel c.args.pair c.is_of_one_entity.result c.requires c.is_of_one_entity.ensures is

pub returns-clause-no : goal.returns-clause-no
returns-clause-no c =
    λ none.
    not_asked c.args.spec.now.relations c.args.rel c.args.pair c.is_of_one_entity.result c.is_of_one_entity.ensures none
