use Rattle.rule_bind.proofs.Numbers.{listed}
use Rattle.rule_bind.proofs.laws.numbers_are_places.Goals as goal

pub returns : goal.returns
returns c = listed
