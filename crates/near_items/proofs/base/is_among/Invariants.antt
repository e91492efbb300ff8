use Rattle.std.proofs.Common.{◌≡◌, ◌<◌, ℕ, Some, slice_get}
use Rattle.minimal_items.specs.declared.needed.Needed.{Needed}
use Rattle.near_items.proofs.base.is_among.Given as goal

abbrev pub invariant-loop-one : goal.invariant-loop-one
invariant-loop-one l =
    (k : ℕ) (one : Needed) → k < l.one-index → slice_get l.needed k ≡ Some one → one.item ≡ l.item → ⊥
