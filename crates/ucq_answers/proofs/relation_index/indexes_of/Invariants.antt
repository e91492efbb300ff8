use Rattle.std.proofs.Common.{◌≡◌}
use Rattle.std.specs.List.{All}
use Rattle.ucq_answers.proofs.relation_index.indexes_of.Given as goal

abbrev pub invariant-loop-place : goal.invariant-loop-place
invariant-loop-place l = All (λ index. index.tuples ≡ l.tuples) l.indexes.items
