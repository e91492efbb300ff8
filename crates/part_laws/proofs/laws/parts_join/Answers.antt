use Rattle.part_laws.proofs.Joined.{parts_join, rests_join}
use Rattle.part_laws.proofs.laws.parts_join.Goals as goal

pub returns-clause-part : goal.returns-clause-part
returns-clause-part c = parts_join

pub returns-clause-rest : goal.returns-clause-rest
returns-clause-rest c = rests_join
