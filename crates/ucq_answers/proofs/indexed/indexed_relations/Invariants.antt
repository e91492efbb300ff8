use Rattle.std.proofs.Common.{◌≡◌, take}
use Rattle.ucq_answers.proofs.indexed.indexed_relations.Given as goal

abbrev pub invariant-loop-relation : goal.invariant-loop-relation
invariant-loop-relation l = l.all.items ≡ take l.relation l.tuples-items
