use Rattle.std.proofs.Common.{◌≡◌, ◌++◌, map, take}
use Rattle.certain_answers.proofs.starting.push_relations.Given as goal

abbrev pub invariant-loop-place : goal.invariant-loop-place
invariant-loop-place l = l.relations ≡ l.initial.relations ++ map (λ a. a.relation) (take l.place l.atoms)
