-- A report that lists no completion.
use Rattle.std.proofs.Common.{◌≡◌, List, [], sym, subst, arith}
use Rattle.std.proofs.lemmas.List.Elements.{All-nil}
use Rattle.refutation_log.specs.Writable.{AreFew}

-- no items are few
pub few_none : {A : Type 0} (P : A → Type 0) (xs : List A) → xs ≡ [] → AreFew P xs
few_none P xs none = subst (AreFew P) (sym none) (record { few = omega arith; each = All-nil P })
