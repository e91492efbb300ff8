-- A list in which nothing stands twice, and all of whose items are in another list, is no longer than that.
use Rattle.std.proofs.Common.{◌≡◌, ◌⊎◌, ◌<◌, ◌≤◌, ◌∙◌, ℕ, zero, suc, eqb, true, false, List, [], ◌∷◌, Contains, Some, length}
use Rattle.std.proofs.Common.{slice_get, refl, sym, ap, subst, inl, inr, arith}
use Rattle.std.specs.List.{list_any, IsDistinct, AllByRecursion}
use Rattle.std.proofs.lemmas.Bool.{ne_eqb, eqb-true, or_cases}
use Rattle.std.proofs.lemmas.Map.Steps.{length-le_from_distinct_below}
use Rattle.std.proofs.lemmas.Option.{none-some, same_Some, slice_get-get_or, slice_get_within}
use Rattle.currency_base.specs.Lists.{OnlyOnce}

-- ---- numbers below a bound

-- a number stands at some place
abbrev Stands : List ℕ → ℕ → Type 0
Stands xs n = (k : ℕ) × (slice_get xs k ≡ Some n)

abbrev next : ℕ → ℕ
next n = suc n

apart_from : (x : ℕ) (xs : List ℕ) → (Stands xs x → ⊥) → AllByRecursion (λ y. eqb x y ≡ false) xs
apart_from x [] apart = tt
apart_from x (y ∷ ys) apart = (
  ne_eqb x y (λ same. apart (0, ap Some (sym same))),
  apart_from x ys (λ there. apart (next there.0, there.1)),
)

distinct : (xs : List ℕ) → OnlyOnce xs → IsDistinct eqb xs
unfolding IsDistinct
distinct [] once = tt
distinct (x ∷ xs) once = (
  apart_from x xs (λ there. let same : 0 ≡ next there.0 = once 0 (next there.0) x refl there.1 in omega (arith, same)),
  distinct xs (λ i j y a b. let same : next i ≡ next j = once (next i) (next j) y a b in omega (arith, same)),
)

is_member : (q : ℕ) (xs : List ℕ) → list_any (eqb q) xs ≡ true → Stands xs q
is_member q [] is = absurd (cc)
is_member q (x ∷ xs) is = by (λ h. is_member q xs h) (or_cases (eqb q x) (list_any (eqb q) xs) is)
  where
    by : (list_any (eqb q) xs ≡ true → Stands xs q) → (eqb q x ≡ true) ⊎ (list_any (eqb q) xs ≡ true) → Stands (x ∷ xs) q
    by more (inl h) = (0, ap Some (sym (eqb-true q x h)))
    by more (inr h) = (next (more h).0, (more h).1)

-- numbers below a bound, none of them twice, are no more than the bound
few : (xs : List ℕ) (n : ℕ) → OnlyOnce xs → ((k q : ℕ) → slice_get xs k ≡ Some q → q < n) → length xs ≤ n
few xs n once below =
    length-le_from_distinct_below xs n (distinct xs once)
    (λ q is. let at = is_member q xs is in below at.0 q at.1)

-- ---- items of another list

-- for each item a place at which it stands in the other list
record AreSpots {A : Type 0} (xs ys : List A) : Type 0 where
  pub spots : List ℕ
  pub as_many : length spots ≡ length xs
  pub each : (i n : ℕ) → slice_get spots i ≡ Some n → (x : A) × (slice_get xs i ≡ Some x) × (slice_get ys n ≡ Some x)

place_in : {A : Type 0} (ys : List A) (x : A) → Contains ys x → (k : ℕ) × (slice_get ys k ≡ Some x)
place_in ys x is = (is.0, slice_get-get_or ys is.0 x is.1 ∙ ap Some is.2)

-- a place for one item more
spots_more : {A : Type 0} (ys xs : List A) (x : A) → (k : ℕ) × (slice_get ys k ≡ Some x) → AreSpots xs ys → AreSpots (x ∷ xs) ys
spots_more {A} ys xs x here rest = record {
  spots = here.0 ∷ rest.spots;
  as_many = ap suc rest.as_many;
  each = each;
}
  where
    each : (i n : ℕ) → slice_get (here.0 ∷ rest.spots) i ≡ Some n
        → (y : A) × (slice_get (x ∷ xs) i ≡ Some y) × (slice_get ys n ≡ Some y)
    each zero n at = (x, refl, subst (λ (k : ℕ). slice_get ys k ≡ Some x) (same_Some here.0 n at) here.1)
    each (suc i) n at = rest.each i n at

spots_of : {A : Type 0} (ys xs : List A) → ((k : ℕ) (x : A) → slice_get xs k ≡ Some x → Contains ys x) → AreSpots xs ys
spots_of ys [] among = record { spots = []; as_many = refl; each = λ i n at. absurd (none-some n at) }
spots_of ys (x ∷ xs) among =
    spots_more ys xs x (place_in ys x (among 0 x refl)) (spots_of ys xs (λ k y at. among (next k) y at))

pub no_longer : {A : Type 0} (xs ys : List A) → OnlyOnce xs → ((k : ℕ) (x : A) → slice_get xs k ≡ Some x → Contains ys x)
    → length xs ≤ length ys
no_longer {A} xs ys once among = by (spots_of ys xs among)
  where
    by : AreSpots xs ys → length xs ≤ length ys
    by are =
        let at_once : OnlyOnce are.spots = λ i j n a b.
        let one = are.each i n a in
        let other = are.each j n b in
        once i j one.0 one.1 (other.1 ∙ ap Some (same_Some other.0 one.0 (sym other.2 ∙ one.2))) in
        let fewer = few are.spots (length ys) at_once
        (λ k q at. slice_get_within ys q (are.each k q at).0 (are.each k q at).2) in
        omega (arith, fewer, are.as_many)
