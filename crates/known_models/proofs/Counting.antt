-- How many parts are not done.
use Rattle.std.proofs.Common.{◌≡◌, ◌≤◌, ◌+◌, ℕ, zero, suc, Bool, true, false, List, [], ◌∷◌, All, Some, length, replicate, slice_get, slice_set, refl, sym, ap, arith}
use Rattle.std.proofs.lemmas.Bool.{false≢true}
use Rattle.std.proofs.lemmas.List.Elements.{All-cons, All-head, All-nil, All-tail}
use Rattle.std.proofs.lemmas.Option.{same_Some, none-some}
use Rattle.known_models.specs.Changes.{left_in}

-- one more is done
pub left_step : (done : List Bool) (part : ℕ) → slice_get done part ≡ Some false
    → left_in done ≡ left_in (slice_set done part true) + 1
left_step [] part e = absurd (none-some false e)
left_step (true ∷ done) zero e = absurd (false≢true (sym (same_Some true false e)))
left_step (false ∷ done) zero e = refl
left_step (true ∷ done) (suc part) e = left_step done part e
left_step (false ∷ done) (suc part) e = ap (λ n. n + 1) (left_step done part e)

-- none is left where all are done
pub none_left : (done : List Bool) → left_in done ≡ 0 → All (λ d. d ≡ true) done
none_left [] e = All-nil (λ d. d ≡ true)
none_left (true ∷ done) e = All-cons (λ d. d ≡ true) true done refl (none_left done e)
none_left (false ∷ done) e = absurd (omega (arith, e))

pub all_done : (done : List Bool) → All (λ d. d ≡ true) done → left_in done ≡ 0
all_done [] all = refl
all_done (true ∷ done) all = all_done done (All-tail (λ d. d ≡ true) true done all)
all_done (false ∷ done) all = absurd (false≢true (All-head (λ d. d ≡ true) false done all))

-- at first all are left, and none is done
pub all_left : (many : ℕ) → left_in (replicate many false) ≡ many
all_left zero = refl
all_left (suc many) = omega (arith, all_left many)

pub not_done : (many part : ℕ) → slice_get (replicate many false) part ≡ Some true → ⊥
not_done zero part e = none-some true e
not_done (suc many) zero e = false≢true (same_Some false true e)
not_done (suc many) (suc part) e = not_done many part e

pub nothing_in : {A : Type 0} (xs : List A) → length xs ≤ 0 → xs ≡ []
nothing_in [] few = refl
nothing_in (x ∷ xs) few = absurd (omega (arith, few))
