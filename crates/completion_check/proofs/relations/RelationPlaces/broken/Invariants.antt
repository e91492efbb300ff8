use Rattle.std.proofs.Common.{◌≡◌, ◌<◌, ℕ, Some, length, slice_get}
use Rattle.currency_base.specs.declared.pair.Pair.{Pair}
use Rattle.completion_check.specs.Relations.{IsInOrder}
use Rattle.completion_check.proofs.relations.RelationPlaces.broken.Given as goal

abbrev pub invariant-loop-pair : goal.invariant-loop-pair
invariant-loop-pair l = (k : ℕ) (p : Pair) → k < length l.yielded → slice_get l.relation.given k ≡ Some p → IsInOrder l.self p
