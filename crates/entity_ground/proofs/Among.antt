-- What is among the items of a list, and lists whose items stand there once, by recursion on the list.
use Rattle.std.proofs.Common.{◌≡◌, ◌+◌, ◌<◌, ◌≤◌, ◌⊎◌, inl, inr, ℕ, zero, suc, Bool, true, false, cond, List, [], ◌∷◌, ◌++◌, map, length, Some, slice_get, slice_index_or, refl, sym, ap, ◌∙◌, arith}
use Rattle.std.specs.List.{filter, flat_map, range_with_len, Contains}
use Rattle.std.proofs.lemmas.Bool.{false≢true}
use Rattle.std.proofs.lemmas.Option.{same_Some, none-some}
use Rattle.std.proofs.Math.Nat.{eq-or-lt_of_le}
use Rattle.currency_base.specs.Lists.{OnlyOnce}

-- the item is one of the list
abbrev pub Among : {A : Type 0} → List A → A → Type 0
Among [] x = ⊥
Among (y ∷ ys) x = (y ≡ x) ⊎ Among ys x

-- no item stands there twice
abbrev pub Apart : {A : Type 0} → List A → Type 0
Apart [] = Unit {0}
Apart (x ∷ xs) = (Among xs x → ⊥) × Apart xs

pub from_contains : {A : Type 0} (xs : List A) (x : A) → Contains xs x → Among xs x
from_contains [] x is = absurd (omega (arith, is.1))
from_contains {A} (y ∷ ys) x is = by is.0 is.1 is.2 (λ k below at. from_contains ys x (k, below, at))
  where
    by : (k : ℕ) → k < length (y ∷ ys) → slice_index_or (y ∷ ys) k x ≡ x →
        ((j : ℕ) → j < length ys → slice_index_or ys j x ≡ x → Among ys x) → (y ≡ x) ⊎ Among ys x
    by zero below at more = inl at
    by (suc j) below at more = inr (more j (omega arith) at)

pub to_contains : {A : Type 0} (xs : List A) (x : A) → Among xs x → Contains xs x
to_contains [] x is = absurd is
to_contains (y ∷ ys) x (inl same) = (0, omega arith, same)
to_contains (y ∷ ys) x (inr more) = let rest = to_contains ys x more in (suc rest.0, omega (arith, rest.1), rest.2)

-- the item at a place is among them
pub from_place : {A : Type 0} (xs : List A) (i : ℕ) (x : A) → slice_get xs i ≡ Some x → Among xs x
from_place [] i x at = absurd (none-some x at)
from_place (y ∷ ys) zero x at = inl (same_Some y x at)
from_place (y ∷ ys) (suc i) x at = inr (from_place ys i x at)

moved : {A : Type 0} (xs : List A) (x y : A) → x ≡ y → Among xs y → Among xs x
moved [] x y same is = is
moved (z ∷ zs) x y same (inl is) = inl (is ∙ sym same)
moved (z ∷ zs) x y same (inr is) = inr (moved zs x y same is)

pub only_once : {A : Type 0} (xs : List A) → Apart xs → OnlyOnce xs
only_once [] apart i j x first second = absurd (none-some x first)
only_once (y ∷ ys) apart zero zero x first second = refl
only_once (y ∷ ys) apart zero (suc j) x first second =
    absurd (apart.0 (moved ys y x (same_Some y x first) (from_place ys j x second)))
only_once (y ∷ ys) apart (suc i) zero x first second =
    absurd (apart.0 (moved ys y x (same_Some y x second) (from_place ys i x first)))
only_once (y ∷ ys) apart (suc i) (suc j) x first second = ap (λ n. suc n) (only_once ys apart.1 i j x first second)

-- ---- one list and then another

pub in_left : {A : Type 0} (xs ys : List A) (x : A) → Among xs x → Among (xs ++ ys) x
in_left [] ys x is = absurd is
in_left (z ∷ zs) ys x (inl is) = inl is
in_left (z ∷ zs) ys x (inr is) = inr (in_left zs ys x is)

pub in_right : {A : Type 0} (xs ys : List A) (x : A) → Among ys x → Among (xs ++ ys) x
in_right [] ys x is = is
in_right (z ∷ zs) ys x is = inr (in_right zs ys x is)

pub of_both : {A : Type 0} (xs ys : List A) (x : A) → Among (xs ++ ys) x → Among xs x ⊎ Among ys x
of_both [] ys x is = inr is
of_both (z ∷ zs) ys x (inl is) = inl (inl is)
of_both {A} (z ∷ zs) ys x (inr is) = by (of_both zs ys x is)
  where
    by : Among zs x ⊎ Among ys x → Among (z ∷ zs) x ⊎ Among ys x
    by (inl left) = inl (inr left)
    by (inr right) = inr right

apart_both : {A : Type 0} (xs ys : List A) → Apart xs → Apart ys → ((x : A) → Among xs x → Among ys x → ⊥) → Apart (xs ++ ys)
apart_both [] ys left right never = right
apart_both {A} (z ∷ zs) ys left right never =
    (λ is. by (of_both zs ys z is), apart_both zs ys left.1 right (λ x inside more. never x (inr inside) more))
  where
    by : Among zs z ⊎ Among ys z → ⊥
    by (inl is) = left.0 is
    by (inr is) = never z (inl refl) is

-- ---- what each item makes, one after another

pub in_flat : {A B : Type 0} (make : A → List B) (xs : List A) (x : A) (y : B) → Among xs x → Among (make x) y
    → Among (flat_map make xs) y
in_flat make [] x y is made = absurd is
in_flat make (z ∷ zs) x y (inl is) made = in_left (make z) (flat_map make zs) y (rw is made)
in_flat make (z ∷ zs) x y (inr is) made = in_right (make z) (flat_map make zs) y (in_flat make zs x y is made)

-- one of the items makes it
pub record IsMadeBy {A B : Type 0} (make : A → List B) (xs : List A) (y : B) : Type 0 where
  pub item : A
  pub is_item : Among xs item
  pub makes : Among (make item) y

pub of_flat : {A B : Type 0} (make : A → List B) (xs : List A) (y : B) → Among (flat_map make xs) y → IsMadeBy make xs y
of_flat make [] y is = absurd is
of_flat {A} {B} make (z ∷ zs) y is = by (of_both (make z) (flat_map make zs) y is) (λ more. of_flat make zs y more)
  where
    by : Among (make z) y ⊎ Among (flat_map make zs) y → (Among (flat_map make zs) y → IsMadeBy make zs y)
        → IsMadeBy make (z ∷ zs) y
    by (inl here) more = record { item = z; is_item = inl refl; makes = here }
    by (inr there) more = let rest = more there in record { item = rest.item; is_item = inr rest.is_item; makes = rest.makes }

pub apart_flat : {A B : Type 0} (make : A → List B) (xs : List A) → Apart xs → ((x : A) → Among xs x → Apart (make x))
    → ((x y : A) (z : B) → Among (make x) z → Among (make y) z → x ≡ y) → Apart (flat_map make xs)
apart_flat make [] apart each one = tt
apart_flat make (x ∷ xs) apart each one =
    apart_both (make x) (flat_map make xs) (each x (inl refl)) (apart_flat make xs apart.1 (λ y is. each y (inr is)) one)
    (λ z here there. let other = of_flat make xs z there in apart.0
    (moved xs x other.item (one x other.item z here other.makes) other.is_item))

-- ---- an item in front of each list

pub in_fronted : {A : Type 0} (x : A) (lists : List (List A)) (l : List A) → Among lists l
    → Among (map (λ rest. x ∷ rest) lists) (x ∷ l)
in_fronted x [] l is = absurd is
in_fronted x (m ∷ lists) l (inl is) = inl (ap (λ rest. x ∷ rest) is)
in_fronted x (m ∷ lists) l (inr is) = inr (in_fronted x lists l is)

-- it is one of the lists with the item in front
pub record IsFronted {A : Type 0} (x : A) (lists : List (List A)) (l : List A) : Type 0 where
  pub rest : List A
  pub is : l ≡ x ∷ rest
  pub among : Among lists rest

pub of_fronted : {A : Type 0} (x : A) (lists : List (List A)) (l : List A) → Among (map (λ rest. x ∷ rest) lists) l
    → IsFronted x lists l
of_fronted x [] l is = absurd is
of_fronted x (m ∷ lists) l (inl is) = record { rest = m; is = sym is; among = inl refl }
of_fronted x (m ∷ lists) l (inr is) = let more = of_fronted x lists l is in record {
  rest = more.rest;
  is =
      more.is;
  among = inr more.among;
}

same_rest : {A : Type 0} (x y : A) (xs ys : List A) → x ∷ xs ≡ y ∷ ys → xs ≡ ys
same_rest x y xs ys same = cc

pub same_first : {A : Type 0} (x y : A) (xs ys : List A) → x ∷ xs ≡ y ∷ ys → x ≡ y
same_first x y xs ys same = cc

pub apart_fronted : {A : Type 0} (x : A) (lists : List (List A)) → Apart lists → Apart (map (λ rest. x ∷ rest) lists)
apart_fronted x [] apart = tt
apart_fronted x (m ∷ lists) apart = (
  λ is. let other = of_fronted x lists (x ∷ m) is in apart.0
      (moved lists m other.rest (same_rest x x m other.rest other.is) other.among),
  apart_fronted x lists apart.1,
)

-- ---- those that pass a test

pub in_filter : {A : Type 0} (test : A → Bool) (xs : List A) (x : A) → Among xs x → test x ≡ true → Among (filter test xs) x
in_filter test [] x is passes = absurd is
in_filter {A} test (y ∷ ys) x is passes = by (test y) refl is (λ more. in_filter test ys x more passes)
  where
    by : (b : Bool) → test y ≡ b → (y ≡ x) ⊎ Among ys x → (Among ys x → Among (filter test ys) x)
        → Among (cond b (y ∷ filter test ys) (filter test ys)) x
    by true tested (inl same) more = inl same
    by true tested (inr there) more = inr (more there)
    by false tested (inl same) more = absurd (false≢true (sym tested ∙ ap test same ∙ passes))
    by false tested (inr there) more = more there

pub of_filter : {A : Type 0} (test : A → Bool) (xs : List A) (x : A) → Among (filter test xs) x → Among xs x × (test x ≡ true)
of_filter test [] x is = absurd is
of_filter {A} test (y ∷ ys) x is = by (test y) refl is (λ more. of_filter test ys x more)
  where
    by : (b : Bool) → test y ≡ b → Among (cond b (y ∷ filter test ys) (filter test ys)) x →
        (Among (filter test ys) x → Among ys x × (test x ≡ true))
        → Among (y ∷ ys) x × (test x ≡ true)
    by true tested (inl same) more = (inl same, ap test (sym same) ∙ tested)
    by true tested (inr there) more = let rest = more there in (inr rest.0, rest.1)
    by false tested there more = let rest = more there in (inr rest.0, rest.1)

pub apart_filter : {A : Type 0} (test : A → Bool) (xs : List A) → Apart xs → Apart (filter test xs)
apart_filter test [] apart = tt
apart_filter {A} test (y ∷ ys) apart = by (test y) (apart_filter test ys apart.1)
  where
    by : (b : Bool) → Apart (filter test ys) → Apart (cond b (y ∷ filter test ys) (filter test ys))
    by true rest = (λ is. apart.0 (of_filter test ys y is).0, rest)
    by false rest = rest

-- ---- numbers

pub in_range : (first count n : ℕ) → first ≤ n → n < first + count → Among (range_with_len first count) n
in_range first zero n from below = absurd (omega arith)
in_range first (suc count) n from below = by (eq-or-lt_of_le from) (λ after. in_range (first + 1) count n after (omega arith))
  where
    by : (first ≡ n) ⊎ (first < n) → (first + 1 ≤ n → Among (range_with_len (first + 1) count) n)
        → Among (first ∷ range_with_len (first + 1) count) n
    by (inl same) more = inl same
    by (inr after) more = inr (more (omega arith))

pub of_range : (first count n : ℕ) → Among (range_with_len first count) n → (first ≤ n) × (n < first + count)
of_range first zero n is = absurd is
of_range first (suc count) n (inl same) = (omega arith, omega arith)
of_range first (suc count) n (inr is) = let rest = of_range (first + 1) count n is in (
  omega (arith, rest.0),
  omega (arith, rest.1),
)

pub apart_range : (first count : ℕ) → Apart (range_with_len first count)
apart_range first zero = tt
apart_range first (suc count) = (
  λ is. let rest = of_range (first + 1) count first is in omega (arith, rest.0),
  apart_range (first + 1) count,
)
