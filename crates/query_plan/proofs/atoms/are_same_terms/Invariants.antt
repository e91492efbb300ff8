use Rattle.std.proofs.Common.{◌≡◌, take}
use Rattle.query_plan.proofs.atoms.are_same_terms.Given as goal

abbrev pub invariant-loop-place : goal.invariant-loop-place
invariant-loop-place l = take l.place l.one ≡ take l.place l.other
