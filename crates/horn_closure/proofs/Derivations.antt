-- Lists of what was derived: what is among them, where it stands, and that more may come after.
use Rattle.std.proofs.Common.{◌≡◌, ◌⊎◌, ◌+◌, ◌<◌, ◌∙◌, ℕ, zero, suc, List, [], ◌∷◌, ◌++◌, Contains, Some, length, take, slice_get, sym, ap, refl, subst, inl, inr, arith, append_assoc}
use Rattle.std.proofs.Math.Seq.{take-append_seam}
use Rattle.std.proofs.lemmas.List.{take-append-le, take_more}
use Rattle.std.proofs.lemmas.Option.{none-some, same_Some, slice_get_within, slice_get-get_or, get_or_from_slice_get}
use Rattle.horn_closure.specs.Least.{Horn, IsAmong, IsDerived}
use Rattle.horn_closure.specs.Steps.{StandsAt, AreDerived, IsLonger, IsAdded}
use Rattle.horn_closure.specs.declared.derived.Derived.{Derived}
use Rattle.horn_closure.specs.declared.derived.Why.{Why}

-- ---- lists

pub get_front : {A : Type 0} (xs ys : List A) (i : ℕ) (x : A) → slice_get xs i ≡ Some x → slice_get (xs ++ ys) i ≡ Some x
get_front [] ys i x at = absurd (none-some x at)
get_front (y ∷ xs) ys zero x at = at
get_front (y ∷ xs) ys (suc i) x at = get_front xs ys i x at

pub get_last : {A : Type 0} (xs : List A) (x : A) → slice_get (xs ++ x ∷ []) (length xs) ≡ Some x
get_last [] x = refl
get_last (y ∷ xs) x = get_last xs x

pub get_push : {A : Type 0} (xs : List A) (x : A) (i : ℕ) (y : A) → slice_get (xs ++ x ∷ []) i ≡ Some y
    → (slice_get xs i ≡ Some y) ⊎ ((i ≡ length xs) × (x ≡ y))
get_push [] x zero y at = inr (refl, same_Some x y at)
get_push [] x (suc i) y at = absurd (none-some y at)
get_push (z ∷ xs) x zero y at = inl at
get_push (z ∷ xs) x (suc i) y at = go (get_push xs x i y at)
  where
    go : (slice_get xs i ≡ Some y) ⊎ ((i ≡ length xs) × (x ≡ y)) → (slice_get xs i ≡ Some y) ⊎
        ((suc i ≡ suc (length xs)) × (x ≡ y))
    go (inl there) = inl there
    go (inr here) = inr (ap suc here.0, here.1)

pub get_take : {A : Type 0} (n : ℕ) (xs : List A) (i : ℕ) (x : A) → slice_get (take n xs) i ≡ Some x →
    (i < n) × (slice_get xs i ≡ Some x)
get_take zero [] i x at = absurd (none-some x at)
get_take zero (y ∷ xs) i x at = absurd (none-some x at)
get_take (suc n) [] i x at = absurd (none-some x at)
get_take (suc n) (y ∷ xs) zero x at = (omega arith, at)
get_take (suc n) (y ∷ xs) (suc i) x at = let more = get_take n xs i x at in (omega (arith, more.0), more.1)

pub contains_at : {A : Type 0} (xs : List A) (i : ℕ) (x : A) → slice_get xs i ≡ Some x → Contains xs x
contains_at xs i x at = (i, slice_get_within xs i x at, get_or_from_slice_get xs i x x at)

pub at_contains : {A : Type 0} (xs : List A) (x : A) → Contains xs x → (i : ℕ) × (slice_get xs i ≡ Some x)
at_contains xs x c = (c.0, slice_get-get_or xs c.0 x c.1 ∙ ap Some c.2)

pub take_at : {A : Type 0} (xs : List A) (i : ℕ) (x : A) → slice_get xs i ≡ Some x → take (i + 1) xs ≡ take i xs ++ x ∷ []
take_at xs i x at = take_more xs i x (slice_get_within xs i x at) ∙ ap (λ y. take i xs ++ y ∷ [])
    (get_or_from_slice_get xs i x x at)

pub take_none : {A : Type 0} (xs : List A) (x : A) → Contains (take 0 xs) x → ⊥
take_none [] x c = omega (arith, c.1)
take_none (y ∷ xs) x c = omega (arith, c.1)

-- ---- where cells stand

pub among_at : (derived : List Derived) (place : ℕ) (d : Derived) (slot : ℕ) → slice_get derived place ≡ Some d
    → d.slot ≡ slot → IsAmong derived slot
among_at derived place d slot at is = record { one = d; is_in = contains_at derived place d at; slot_is = is }

pub stands_among : (derived : List Derived) (place slot : ℕ) → StandsAt derived place slot → IsAmong derived slot
stands_among derived place slot s = among_at derived place s.one slot s.is_one s.slot_is

pub among_stands : (derived : List Derived) (slot : ℕ) → IsAmong derived slot → (place : ℕ) × StandsAt derived place slot
among_stands derived slot a =
    let at = at_contains derived a.one a.is_in in
    (at.0, record { one = a.one; is_one = at.1; slot_is = a.slot_is })

-- ---- more

pub longer_none : (old : List Derived) → IsLonger old old
longer_none old = record { rest = []; is = sym (nothing old) }
  where
    nothing : (xs : List Derived) → xs ++ [] ≡ xs
    nothing [] = refl
    nothing (x ∷ xs) = ap (λ ys. x ∷ ys) (nothing xs)

pub longer_push : (old : List Derived) (d : Derived) → IsLonger old (old ++ d ∷ [])
longer_push old d = record { rest = d ∷ []; is = refl }

pub longer_twice : (old mid new : List Derived) → IsLonger old mid → IsLonger mid new → IsLonger old new
longer_twice old mid new a b = record {
  rest = a.rest ++ b.rest;
  is = b.is ∙ ap (λ xs. xs ++ b.rest) a.is ∙ append_assoc old a.rest b.rest;
}

pub stands_longer : (old new : List Derived) (place slot : ℕ) → IsLonger old new → StandsAt old place slot
    → StandsAt new place slot
stands_longer old new place slot l s = record {
  one = s.one;
  is_one = ap (λ xs. slice_get xs place) l.is ∙ get_front old l.rest place s.one s.is_one;
  slot_is = s.slot_is;
}

pub among_longer : (old new : List Derived) (slot : ℕ) → IsLonger old new → IsAmong old slot → IsAmong new slot
among_longer old new slot l a =
    let s = among_stands old slot a in
    stands_among new s.0 slot (stands_longer old new s.0 slot l s.1)

-- ---- one more

pub derived_push : (h : Horn) (old : List Derived) (d : Derived) → IsDerived h old d → AreDerived h old
    → AreDerived h (old ++ d ∷ [])
derived_push h old d is each place e at = go (get_push old d place e at)
  where
    go : (slice_get old place ≡ Some e) ⊎ ((place ≡ length old) × (d ≡ e)) → IsDerived h (take place (old ++ d ∷ [])) e
    go (inl there) =
        let within = slice_get_within old place e there in
        subst (λ (ds : List Derived). IsDerived h ds e) (sym (take-append-le place old (d ∷ []) (omega arith)))
        (each place e there)
    go (inr here) =
        let front : take place (old ++ d ∷ []) ≡ old = ap (λ n. take n (old ++ d ∷ [])) here.0 ∙ take-append_seam old (d ∷ []) in
        subst (λ (ds : List Derived). IsDerived h ds e) (sym front) (subst (λ (x : Derived). IsDerived h old x) here.1 is)

-- a cell that was derived before needs no more
pub added_none : (old : List Derived) (slot : ℕ) (why : Why) → IsAmong old slot → IsAdded old slot why old
added_none old slot why a = record { longer = longer_none old; among = a; sound = λ h is each. each }

pub added_one : (old : List Derived) (slot : ℕ) (why : Why) → IsAdded old slot why (old ++ record { slot = slot; why = why } ∷ [])
added_one old slot why =
    let d : Derived = record { slot = slot; why = why } in
    record {
      longer = longer_push old d;
      among = among_at (old ++ d ∷ []) (length old) d slot (get_last old d) refl;
      sound = λ h is each. derived_push h old d is each;
    }
