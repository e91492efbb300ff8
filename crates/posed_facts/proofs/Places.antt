-- What stands at the places of a claim's atom.
use Rattle.std.proofs.Common.{◌≡◌, ◌+◌, ◌-◌, ◌<◌, ℕ, zero, suc, List, [], ◌∷◌, ◌++◌, Some, length, slice_get, refl, ap, subst, ◌∙◌, arith}
use Rattle.std.proofs.lemmas.List.{append_assoc}
use Rattle.std.proofs.lemmas.Option.{same_Some, none-some}
use Rattle.query_model.specs.declared.query.Term.{Term}
use Rattle.query_model.specs.declared.query.Term.TheVariants as term
use Rattle.posed_facts.specs.Questions.{any_places, term_places}

-- anything may stand there
any_stands : (n k : ℕ) (u : Term) → slice_get (any_places n) k ≡ Some u → term.Any ≡ u
any_stands zero k u at = absurd (none-some u at)
any_stands (suc n) zero u at = same_Some term.Any u at
any_stands (suc n) (suc k) u at = any_stands n k u at

-- what holds of anything at each place, and of the term at its own, holds of all that stands there
pub each_place : (n attr : ℕ) (t : Term) (P : ℕ → Term → Type 0) → ((k : ℕ) → P k term.Any) → P attr t
    → (k : ℕ) (u : Term) → slice_get (term_places n attr t) k ≡ Some u → P k u
each_place zero attr t P any own k u at = absurd (none-some u at)
each_place (suc n) zero t P any own zero u at = subst (P 0) (same_Some t u at) own
each_place (suc n) zero t P any own (suc k) u at = subst (P (suc k)) (any_stands n k u at) (any (suc k))
each_place (suc n) (suc attr) t P any own zero u at = subst (P 0) (same_Some term.Any u at) (any 0)
each_place (suc n) (suc attr) t P any own (suc k) u at =
    each_place n attr t (λ j. P (suc j)) (λ j. any (suc j)) own k u at

-- the term stands at its own place
pub own_place : (n attr : ℕ) (t : Term) → attr < n → slice_get (term_places n attr t) attr ≡ Some t
own_place zero attr t below = absurd (omega (arith, below))
own_place (suc n) zero t below = refl
own_place (suc n) (suc attr) t below = own_place n attr t (omega (arith, below))

-- there are so many
any_length : (n : ℕ) → length (any_places n) ≡ n
any_length zero = refl
any_length (suc n) = omega (arith, any_length n)

-- there are so many, with the term among them
pub places_length : (n attr : ℕ) (t : Term) → length (term_places n attr t) ≡ n
places_length zero attr t = refl
places_length (suc n) zero t = omega (arith, any_length n)
places_length (suc n) (suc attr) t = omega (arith, places_length n attr t)

-- ---- as they are put

-- one place more at the end
pub any_more : (n : ℕ) → any_places n ++ term.Any ∷ [] ≡ any_places (n + 1)
any_more n = more n ∙ ap any_places (next n)
  where
    next : (m : ℕ) → suc m ≡ m + 1
    next m = omega arith

    more : (m : ℕ) → any_places m ++ term.Any ∷ [] ≡ any_places (suc m)
    more zero = refl
    more (suc m) = ap (λ l. term.Any ∷ l) (more m)

-- the places before the term, the term, and those behind it
pub places_put : (n attr : ℕ) (t : Term) → attr < n → any_places attr ++ t ∷ any_places (n - attr - 1) ≡ term_places n attr t
places_put zero attr t below = absurd (omega (arith, below))
places_put (suc n) zero t below = let same : suc n - 0 - 1 ≡ n = omega arith in ap (λ m. t ∷ any_places m) same
places_put (suc n) (suc attr) t below =
    let same : suc n - suc attr - 1 ≡ n - attr - 1 = omega arith in
    ap (λ m. term.Any ∷ any_places attr ++ t ∷ any_places m) same
    ∙ ap (λ l. term.Any ∷ l) (places_put n attr t (omega (arith, below)))

-- the same, behind a front
pub one_put : (front terms : List Term) (n : ℕ) → terms ≡ front ++ any_places n
    → terms ++ term.Any ∷ [] ≡ front ++ any_places (n + 1)
one_put front terms n are =
    ap (λ l. l ++ term.Any ∷ []) are
    ∙ append_assoc front (any_places n) (term.Any ∷ [])
    ∙ ap (λ l. front ++ l) (any_more n)

-- a name, the places before the term, the term, and the places behind it
pub all_put : (name t : Term) (n attr : ℕ) → attr < n → (one two three four : List Term) → one ≡ name ∷ []
    → two ≡ one ++ any_places attr → three ≡ two ++ t ∷ [] → four ≡ three ++ any_places (n - attr - 1)
    → four ≡ name ∷ term_places n attr t
all_put name t n attr below one two three four first before own behind =
    let last = any_places (n - attr - 1) in
    behind
    ∙ ap (λ l. l ++ last) (own ∙ ap (λ l. l ++ t ∷ []) (before ∙ ap (λ l. l ++ any_places attr) first))
    ∙ ap (λ l. name ∷ l) (append_assoc (any_places attr) (t ∷ []) last ∙ places_put n attr t below)
