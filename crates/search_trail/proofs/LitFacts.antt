-- What literals say of variables, where no variable stands in two of them.
use Rattle.std.proofs.Common.{◌≡◌, ◌⊎◌, ◌<◌, ◌≤◌, ◌+◌, ◌∙◌, ℕ, zero, suc, Bool, true, false, not, eqb, List, [], ◌∷◌, ◌++◌, Some, None, All, length, map, slice_get, refl, sym, ap, subst, inl, inr, arith}
use Rattle.std.specs.List.{list_any, IsDistinct, AllByRecursion}
use Rattle.std.proofs.lemmas.Bool.{cases_eq, ne_eqb, eq-eqb, eqb-true, or_cases}
use Rattle.std.proofs.lemmas.List.{length-map}
use Rattle.std.proofs.lemmas.List.Elements.{All-head, All-tail, All-push}
use Rattle.std.proofs.lemmas.Map.Steps.{length-le_from_distinct_below}
use Rattle.currency_base.specs.Literals.{var_of, is_negative}
use Rattle.currency_base.specs.declared.lit.Lit.{Lit}
use Rattle.search_trail.specs.Trails.{value_in}
use Rattle.search_trail.specs.Kept.{Once}

-- the first literal is of the variable, or the others tell
pub value_here : (x : Lit) (xs : List Lit) (var : ℕ) → var_of x ≡ var → value_in (x ∷ xs) var ≡ Some (not (is_negative x))
value_here x xs var e = rw (eq-eqb (var_of x) var e) refl

pub value_past : (x : Lit) (xs : List Lit) (var : ℕ) → (var_of x ≡ var → ⊥) → value_in (x ∷ xs) var ≡ value_in xs var
value_past x xs var d = rw (ne_eqb (var_of x) var d) refl

-- a variable that has no value is none of the first literal
pub none_here : (x : Lit) (xs : List Lit) (var : ℕ) → value_in (x ∷ xs) var ≡ None → var_of x ≡ var → ⊥
none_here x xs var none e = let some = value_here x xs var e in absurd (cc)

pub none_past : (x : Lit) (xs : List Lit) (var : ℕ) → value_in (x ∷ xs) var ≡ None → value_in xs var ≡ None
none_past x xs var none = sym (value_past x xs var (none_here x xs var none)) ∙ none

-- literals one after another
pub value_append_none : (xs ys : List Lit) (var : ℕ) → value_in xs var ≡ None → value_in (xs ++ ys) var ≡ value_in ys var
value_append_none [] ys var none = refl
value_append_none (x ∷ xs) ys var none =
    value_past x (xs ++ ys) var (none_here x xs var none) ∙ value_append_none xs ys var (none_past x xs var none)

pub value_append_some : (xs ys : List Lit) (var : ℕ) → value_in ys var ≡ None → value_in (xs ++ ys) var ≡ value_in xs var
value_append_some [] ys var none = none
value_append_some (x ∷ xs) ys var none = go (value_append_some xs ys var none) (cases_eq (var_of x) var)
  where
    go : value_in (xs ++ ys) var ≡ value_in xs var → (var_of x ≡ var) ⊎ (var_of x ≡ var → ⊥)
        → value_in (x ∷ (xs ++ ys)) var ≡ value_in (x ∷ xs) var
    go more (inl e) = value_here x (xs ++ ys) var e ∙ sym (value_here x xs var e)
    go more (inr d) = value_past x (xs ++ ys) var d ∙ more ∙ sym (value_past x xs var d)

pub none_right : (xs ys : List Lit) (var : ℕ) → value_in (xs ++ ys) var ≡ None → value_in ys var ≡ None
none_right [] ys var none = none
none_right (x ∷ xs) ys var none = none_right xs ys var (none_past x (xs ++ ys) var none)

pub none_left : (xs ys : List Lit) (var : ℕ) → value_in (xs ++ ys) var ≡ None → value_in xs var ≡ None
none_left [] ys var none = refl
none_left (x ∷ xs) ys var none =
    value_past x xs var (none_here x (xs ++ ys) var none) ∙ none_left xs ys var (none_past x (xs ++ ys) var none)

-- one literal of a fresh variable more
pub once_push : (xs : List Lit) (lit : Lit) → Once xs → value_in xs (var_of lit) ≡ None → Once (xs ++ lit ∷ [])
once_push [] lit once fresh = (refl, tt)
once_push (x ∷ xs) lit once fresh = (
  value_append_none xs (lit ∷ []) (var_of x) once.0 ∙ value_past lit [] (var_of x)
      (λ e. none_here x xs (var_of lit) fresh (sym e)),
  once_push xs lit once.1 (none_past x xs (var_of lit) fresh),
)

pub once_left : (xs ys : List Lit) → Once (xs ++ ys) → Once xs
once_left [] ys once = tt
once_left (x ∷ xs) ys once = (none_left xs ys (var_of x) once.0, once_left xs ys once.1)

-- a variable of later literals is of no earlier one
pub once_apart : (xs ys : List Lit) (var : ℕ) (b : Bool) → Once (xs ++ ys) → value_in ys var ≡ Some b → value_in xs var ≡ None
once_apart [] ys var b once some = refl
once_apart (x ∷ xs) ys var b once some =
    value_past x xs var (λ e. differ e) ∙ once_apart xs ys var b once.1 some
  where
    differ : var_of x ≡ var → ⊥
    differ e =
        let none : value_in ys (var_of x) ≡ None = none_right xs ys (var_of x) once.0 in
        let none' : value_in ys var ≡ None = subst (λ v. value_in ys v ≡ None) e none in
        absurd (cc)

-- the variable of a literal that stands there has a value
pub has_value : (xs : List Lit) (i : ℕ) (x : Lit) → slice_get xs i ≡ Some x → value_in xs (var_of x) ≡ None → ⊥
has_value [] i x is none = absurd (cc)
has_value (y ∷ ys) zero x is none = none_here y ys (var_of x) none (ap var_of (same is))
  where
    same : Some y ≡ Some x → y ≡ x
    same e = cc
has_value (y ∷ ys) (suc i) x is none = has_value ys i x is (none_past y ys (var_of x) none)

-- and a variable that has a value stands in a literal
pub place_of : (xs : List Lit) (var : ℕ) → (value_in xs var ≡ None → ⊥) → (i : ℕ) × (x : Lit) ×
    (slice_get xs i ≡ Some x) × (var_of x ≡ var)
place_of [] var some = absurd (some refl)
place_of (x ∷ xs) var some = go (λ h. place_of xs var h) (cases_eq (var_of x) var)
  where
    go : ((value_in xs var ≡ None → ⊥) → (i : ℕ) × (y : Lit) × (slice_get xs i ≡ Some y) × (var_of y ≡ var)) →
        (var_of x ≡ var) ⊎ (var_of x ≡ var → ⊥)
        → (i : ℕ) × (y : Lit) × (slice_get (x ∷ xs) i ≡ Some y) × (var_of y ≡ var)
    go more (inl e) = (0, x, refl, e)
    go more (inr d) = let later = more (λ none. some (value_past x xs var d ∙ none)) in (suc later.0, later.1, later.2, later.3)

pub same_place : (xs : List Lit) (i j : ℕ) (x y : Lit) → Once xs → slice_get xs i ≡ Some x → slice_get xs j ≡ Some y
    → var_of x ≡ var_of y → i ≡ j
same_place [] i j x y once a b e = absurd (cc)
same_place (z ∷ zs) zero zero x y once a b e = refl
same_place (z ∷ zs) zero (suc j) x y once a b e =
    absurd (has_value zs j y b (subst (λ v. value_in zs v ≡ None) (ap var_of (same a) ∙ e) once.0))
  where
    same : Some z ≡ Some x → z ≡ x
    same e = cc
same_place (z ∷ zs) (suc i) zero x y once a b e =
    absurd (has_value zs i x a (subst (λ v. value_in zs v ≡ None) (ap var_of (same b) ∙ sym e) once.0))
  where
    same : Some z ≡ Some y → z ≡ y
    same e = cc
same_place (z ∷ zs) (suc i) (suc j) x y once a b e = ap suc (same_place zs i j x y once.1 a b e)

-- ---- there are at most as many literals as variables

not_among : (var : ℕ) (xs : List Lit) → value_in xs var ≡ None → AllByRecursion (λ y. eqb var y ≡ false) (map var_of xs)
not_among var [] none = tt
not_among var (x ∷ xs) none = (
  ne_eqb var (var_of x) (λ e. none_here x xs var none (sym e)),
  not_among var xs (none_past x xs var none),
)

distinct : (xs : List Lit) → Once xs → IsDistinct eqb (map var_of xs)
unfolding IsDistinct
distinct [] once = tt
distinct (x ∷ xs) once = (not_among (var_of x) xs once.0, distinct xs once.1)

below : (n q : ℕ) (xs : List Lit) → All (λ lit. var_of lit < n) xs → list_any (eqb q) (map var_of xs) ≡ true → q < n
below n q [] all is = absurd (cc)
below n q (x ∷ xs) all is =
    go (λ h. below n q xs (All-tail (λ lit. var_of lit < n) x xs all) h)
    (or_cases (eqb q (var_of x)) (list_any (eqb q) (map var_of xs)) is)
  where
    go : (list_any (eqb q) (map var_of xs) ≡ true → q < n) → (eqb q (var_of x) ≡ true) ⊎
        (list_any (eqb q) (map var_of xs) ≡ true) → q < n
    go more (inl h) = subst (λ v. v < n) (sym (eqb-true q (var_of x) h)) (All-head (λ lit. var_of lit < n) x xs all)
    go more (inr h) = more h

pub few_lits : (n : ℕ) (xs : List Lit) → Once xs → All (λ lit. var_of lit < n) xs → length xs ≤ n
few_lits n xs once all =
    let few = length-le_from_distinct_below (map var_of xs) n (distinct xs once) (λ q any. below n q xs all any) in
    omega (arith, few, length-map xs var_of)

-- and fewer where one has no value
pub room_for : (n : ℕ) (xs : List Lit) (lit : Lit) → Once xs → All (λ l. var_of l < n) xs → var_of lit < n
    → value_in xs (var_of lit) ≡ None → length xs + 1 ≤ n
room_for n xs lit once all h fresh =
    let few = few_lits n (xs ++ lit ∷ []) (once_push xs lit once fresh) (All-push (λ l. var_of l < n) xs lit all h) in
    omega (arith, few, longer xs)
  where
    longer : (ys : List Lit) → length (ys ++ lit ∷ []) ≡ length ys + 1
    longer [] = refl
    longer (y ∷ ys) = let more = longer ys in omega (arith, more)
