-- Words on lists that several layers cite.
use Rattle.std.specs.Prelude.{◌≡◌, ℕ, List, Some, slice_get}

-- no item stands at two places
abbrev pub OnlyOnce : {A : Type 0} → List A → Type 0
OnlyOnce {A} xs = (i j : ℕ) (x : A) → slice_get xs i ≡ Some x → slice_get xs j ≡ Some x → i ≡ j
