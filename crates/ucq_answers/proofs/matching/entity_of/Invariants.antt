use Rattle.std.proofs.Common.{take}
use Rattle.std.specs.List.{All}
use Rattle.ucq_answers.proofs.Matches.{NoFit}
use Rattle.ucq_answers.proofs.matching.entity_of.Given as goal

abbrev pub invariant-loop-ent : goal.invariant-loop-ent
invariant-loop-ent l = All (NoFit l.relations l.atom l.values) (take l.ent-index l.ent-items)
