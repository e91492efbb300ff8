-- Items that are made one by one, and the kinds of places.
use Rattle.std.proofs.Common.{◌≡◌, ◌∙◌, ◌+◌, ◌-◌, ◌<◌, ℕ, zero, suc, List, ◌∷◌, length, drop, get_or, Option, Result, Err, slice_get, refl, sym, ap, arith}
use Rattle.std.proofs.lemmas.List.{at_drop_more}
use Rattle.bind_faults.specs.Faults.{all_of, IsDue}
use Rattle.bind_faults.specs.declared.fault.BindFault.{BindFault}
use Rattle.bind_faults.proofs.Outcomes.{due_through}
use Rattle.query_bind.specs.Steps.{with_front}

-- a fault that is due of the next item is due of all
pub walk_fault : {A B : Type 0} (f : A → Result B BindFault) (xs : List A) (i : ℕ) (front : List B) (x : A) (e : BindFault)
    → with_front front (all_of f (drop i xs)) ≡ all_of f xs → i < length xs → x ≡ get_or xs i x → IsDue (f x) (Err e)
    → IsDue (all_of f xs) (Err e)
walk_fault f xs i front x e so lt is due =
    due_through (f x) (all_of f xs) e due (λ at. sym so ∙ at_drop_more (λ ys. with_front front (all_of f ys)) xs i x
    lt ∙ by (ap f (sym is) ∙ at))
  where
    by : f (get_or xs i x) ≡ Err e → with_front front (all_of f (get_or xs i x ∷ drop (i + 1) xs)) ≡ Err e
    by at = rw at refl

-- a place past the first
pub past_first : {A : Type 0} (x : A) (xs : List A) (k : ℕ) (o : Option A) → (k ≡ 0 → ⊥) → o ≡ slice_get xs (k - 1)
    → o ≡ slice_get (x ∷ xs) k
past_first x xs zero o some is = absurd (some refl)
past_first x xs (suc k) o some is = let e : suc k - 1 ≡ k = omega arith in is ∙ ap (slice_get xs) e
