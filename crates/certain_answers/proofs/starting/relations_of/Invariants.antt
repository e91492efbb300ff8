use Rattle.std.proofs.Common.{◌≡◌, take}
use Rattle.std.specs.List.{flat_map}
use Rattle.certain_answers.specs.Deciding.{relations_in}
use Rattle.certain_answers.proofs.starting.relations_of.Given as goal

abbrev pub invariant-loop-place : goal.invariant-loop-place
invariant-loop-place l = l.relations ≡ flat_map relations_in (take l.place l.query.disjuncts)
