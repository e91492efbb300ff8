-- Lists of slots: a slot taken off, the slot that follows, and the rest from a slot on.
use Rattle.std.proofs.Common.{◌≡◌, ◌≢◌, ◌==◌, ◌⊎◌, ◌<◌, ◌≤◌, ◌∙◌, ℕ, true, false, cond, List, [], ◌∷◌, Option, Some, None, IfSome, length, refl, sym, ap, subst, inl, inr}
use Rattle.std.proofs.lemmas.Bool.Decides.{eqb_tells}
use Rattle.std.proofs.lemmas.List.{get_or_past}
use Rattle.std.proofs.lemmas.Bool.{cases_lt, eq-eqb, ne_eqb}
use Rattle.std.proofs.lemmas.Option.{none-some, same_Some}
use Rattle.watch_links.specs.Links.{list_of, IsIn, HasNoneTwice, head_of, following, coming_after, without, rest_from}

-- what a test whether two numbers are equal tells
abbrev pub Tells : ℕ → ℕ → Type 0
Tells a b = (((a == b) ≡ true) × (a ≡ b)) ⊎ (((a == b) ≡ false) × (a ≢ b))

-- a slot that stands in a list without another stood there before
pub in_without : (slot y : ℕ) (xs : List ℕ) → IsIn y (without slot xs) → IsIn y xs
unfolding without
in_without slot y [] i = i
in_without slot y (x ∷ xs) i = go (in_without slot y xs) (eqb_tells slot x) i
  where
    go : (IsIn y (without slot xs) → IsIn y xs) → Tells slot x → IsIn y (cond (slot == x) xs (x ∷ without slot xs))
        → IsIn y (x ∷ xs)
    go more (inl h) i = inr (rw h.0 at i)
    go more (inr h) i = step (rw h.0 at i)
      where
        step : IsIn y (x ∷ without slot xs) → IsIn y (x ∷ xs)
        step (inl e) = inl e
        step (inr j) = inr (more j)

-- a slot that is taken off stands there no more
pub not_in_without : (slot : ℕ) (xs : List ℕ) → HasNoneTwice xs → IsIn slot (without slot xs) → ⊥
unfolding without
not_in_without slot [] once i = i
not_in_without slot (x ∷ xs) once i = go (not_in_without slot xs once.1) (eqb_tells slot x) i
  where
    go : (IsIn slot (without slot xs) → ⊥) → Tells slot x → IsIn slot (cond (slot == x) xs (x ∷ without slot xs)) → ⊥
    go more (inl h) i = let j : IsIn slot xs = rw h.0 at i in once.0 (subst (λ z. IsIn z xs) h.1 j)
    go more (inr h) i = step (rw h.0 at i)
      where
        step : IsIn slot (x ∷ without slot xs) → ⊥
        step (inl e) = h.1 e
        step (inr j) = more j

-- the other slots stay
pub stays_in_without : (slot y : ℕ) (xs : List ℕ) → IsIn y xs → (y ≡ slot → ⊥) → IsIn y (without slot xs)
unfolding without
stays_in_without slot y [] i other = i
stays_in_without slot y (x ∷ xs) i other = go (λ j. stays_in_without slot y xs j other) (eqb_tells slot x) i
  where
    go : (IsIn y xs → IsIn y (without slot xs)) → Tells slot x → IsIn y (x ∷ xs)
        → IsIn y (cond (slot == x) xs (x ∷ without slot xs))
    go more (inl h) (inl e) = absurd (other (e ∙ sym h.1))
    go more (inl h) (inr j) = rw h.0 j
    go more (inr h) (inl e) = rw h.0 (inl e)
    go more (inr h) (inr j) = rw h.0 (inr (more j))

-- a slot that stands in an owner's list tells that there is that owner
pub owner_within : (lists : List (List ℕ)) (owner slot : ℕ) → IsIn slot (list_of lists owner) → owner < length lists
owner_within lists owner slot i = go (cases_lt owner (length lists)) i
  where
    go : (owner < length lists) ⊎ (length lists ≤ owner) → IsIn slot (list_of lists owner) → owner < length lists
    go (inl h) i = h
    go (inr h) i = let none : list_of lists owner ≡ [] = get_or_past lists owner [] h in absurd (rw none at i)

-- a list has its first slot
pub head_in : (xs : List ℕ) → IfSome (head_of xs) (λ y. IsIn y xs)
head_in [] = tt
head_in (x ∷ xs) = inl refl

later_in : (x : ℕ) (xs : List ℕ) (at : Option ℕ) → IfSome at (λ y. IsIn y xs) → IfSome at (λ y. IsIn y (x ∷ xs))
later_in x xs None i = tt
later_in x xs (Some y) i = inr i

-- what follows a slot in a list stands in it
pub following_in : (slot : ℕ) (xs : List ℕ) → IfSome (following slot xs) (λ y. IsIn y xs)
unfolding following
following_in slot [] = tt
following_in slot (x ∷ xs) = go (eqb_tells slot x) (following_in slot xs)
  where
    go : Tells slot x → IfSome (following slot xs) (λ y. IsIn y xs)
        → IfSome (cond (slot == x) (head_of xs) (following slot xs)) (λ y. IsIn y (x ∷ xs))
    go (inl h) more = rw h.0 (later_in x xs (head_of xs) (head_in xs))
    go (inr h) more = rw h.0 (later_in x xs (following slot xs) more)

not_first : (x : ℕ) (xs : List ℕ) (at : Option ℕ) → (IsIn x xs → ⊥) → IfSome at (λ y. IsIn y xs) → IfSome at (λ y. y ≡ x → ⊥)
not_first x xs None out i = tt
not_first x xs (Some y) out i = λ e. out (subst (λ (z : ℕ). IsIn z xs) e i)

-- the rest from another slot than the first
rest_skip : (at : Option ℕ) (x : ℕ) (xs : List ℕ) → IfSome at (λ y. y ≡ x → ⊥) → rest_from at (x ∷ xs) ≡ rest_from at xs
unfolding rest_from
rest_skip None x xs other = refl
rest_skip (Some y) x xs other = rw (ne_eqb y x other) refl

-- a walk begins with the whole list
pub rest_at_head : (xs : List ℕ) → rest_from (head_of xs) xs ≡ xs
unfolding rest_from
rest_at_head [] = refl
rest_at_head (x ∷ xs) = rw (eq-eqb x x refl) refl

-- and a walk that is at its end has nothing left
pub rest_at_end : (xs : List ℕ) → rest_from None xs ≡ []
unfolding rest_from
rest_at_end xs = refl

-- what is left of a walk: the slot where it is, and what is left from the following one on
pub rest_is : (slot : ℕ) (xs : List ℕ) → HasNoneTwice xs → IsIn slot xs → rest_from (Some slot) xs ≡ slot
    ∷ rest_from (following slot xs) xs
unfolding rest_from following
rest_is slot [] once i = absurd i
rest_is slot (x ∷ xs) once i = go (eqb_tells slot x) (λ j. rest_is slot xs once.1 j) i
  where
    go : Tells slot x → (IsIn slot xs → rest_from (Some slot) xs ≡ slot ∷ rest_from (following slot xs) xs) → IsIn slot (x ∷ xs)
        → cond (slot == x) (x ∷ xs) (rest_from (Some slot) xs) ≡ slot
        ∷ rest_from (cond (slot == x) (head_of xs) (following slot xs)) (x ∷ xs)
    go (inl h) more i =
        let rest : rest_from (head_of xs) (x ∷ xs) ≡ xs = rest_skip (head_of xs) x xs
        (not_first x xs (head_of xs) once.0 (head_in xs)) ∙ rest_at_head xs in
        rw h.0 (ap (λ (z : ℕ). z ∷ xs) (sym h.1) ∙ ap (λ (zs : List ℕ). slot ∷ zs) (sym rest))
    go (inr h) more (inl e) = absurd (h.1 e)
    go (inr h) more (inr j) =
        let rest = rest_skip (following slot xs) x xs (not_first x xs (following slot xs) once.0 (following_in slot xs)) in
        rw h.0 (more j ∙ ap (λ (zs : List ℕ). slot ∷ zs) (sym rest))

-- what is left of a walk from the following slot on stays, where the slot is taken off
pub rest_without : (slot : ℕ) (xs : List ℕ) → HasNoneTwice xs → rest_from (following slot xs) (without slot xs) ≡
    rest_from (following slot xs) xs
unfolding following without
rest_without slot [] once = refl
rest_without slot (x ∷ xs) once = go (eqb_tells slot x) (rest_without slot xs once.1)
  where
    go : Tells slot x → rest_from (following slot xs) (without slot xs) ≡ rest_from (following slot xs) xs
        → rest_from (cond (slot == x) (head_of xs) (following slot xs)) (cond (slot == x) xs (x ∷ without slot xs))
        ≡ rest_from (cond (slot == x) (head_of xs) (following slot xs)) (x ∷ xs)
    go (inl h) more = rw h.0 (sym (rest_skip (head_of xs) x xs (not_first x xs (head_of xs) once.0 (head_in xs))))
    go (inr h) more =
        let other = not_first x xs (following slot xs) once.0 (following_in slot xs) in
        rw h.0 (rest_skip (following slot xs) x (without slot xs) other ∙ more ∙ sym (rest_skip (following slot xs) x xs other))

-- what follows a slot in a list stays, where the slot is taken off
pub following_stays : (slot : ℕ) (xs : List ℕ) → IfSome (following slot xs) (λ y. IsIn y (without slot xs))
unfolding following without
following_stays slot [] = tt
following_stays slot (x ∷ xs) = go (eqb_tells slot x) (following_stays slot xs)
  where
    go : Tells slot x → IfSome (following slot xs) (λ y. IsIn y (without slot xs))
        → IfSome (cond (slot == x) (head_of xs) (following slot xs)) (λ y. IsIn y (cond (slot == x) xs (x ∷ without slot xs)))
    go (inl h) more = rw h.0 (head_in xs)
    go (inr h) more = rw h.0 (later_in x (without slot xs) (following slot xs) more)

-- the slot that comes after one stands in the list
pub coming_in : (before : Option ℕ) (slot : ℕ) (xs : List ℕ) → coming_after before xs ≡ Some slot → IsIn slot xs
coming_in None slot xs is = subst (λ (o : Option ℕ). IfSome o (λ y. IsIn y xs)) is (head_in xs)
coming_in (Some before) slot xs is = subst (λ (o : Option ℕ). IfSome o (λ y. IsIn y xs)) is (following_in before xs)

-- a list that has a slot after one has that one
pub before_in : (before slot : ℕ) (xs : List ℕ) → following before xs ≡ Some slot → IsIn before xs
unfolding following
before_in before slot [] is = absurd (none-some slot is)
before_in before slot (x ∷ xs) is = go (eqb_tells before x) (before_in before slot xs) is
  where
    go : Tells before x → (following before xs ≡ Some slot → IsIn before xs) → cond (before == x) (head_of xs)
        (following before xs) ≡ Some slot → IsIn before (x ∷ xs)
    go (inl h) more is = inl h.1
    go (inr h) more is = inr (more (rw h.0 at is))

-- a list that begins with a slot is that slot and the others
pub head_splits : (slot : ℕ) (xs : List ℕ) → head_of xs ≡ Some slot → (rest : List ℕ) × (xs ≡ slot ∷ rest)
head_splits slot [] is = absurd (none-some slot is)
head_splits slot (x ∷ xs) is = (xs, ap (λ (z : ℕ). z ∷ xs) (same_Some x slot is))

at_head : (slot : ℕ) (rest : List ℕ) → head_of (without slot (slot ∷ rest)) ≡ following slot (slot ∷ rest)
unfolding following without
at_head slot rest = rw (eq-eqb slot slot refl) refl

behind : (before slot : ℕ) (xs : List ℕ) → HasNoneTwice xs → following before xs ≡ Some slot
    → following before (without slot xs) ≡ following slot xs
unfolding following without
behind before slot [] once is = refl
behind before slot (x ∷ xs) once is = go (eqb_tells before x) (behind before slot xs once.1) is
  where
    go : Tells before x → (following before xs ≡ Some slot → following before (without slot xs) ≡ following slot xs)
        → cond (before == x) (head_of xs) (following before xs) ≡ Some slot
        → following before (cond (slot == x) xs (x ∷ without slot xs)) ≡ cond (slot == x) (head_of xs) (following slot xs)
    go (inl h) more is = first (head_splits slot xs (rw h.0 at is))
      where
        first : (rest : List ℕ) × (xs ≡ slot ∷ rest)
            → following before (cond (slot == x) xs (x ∷ without slot xs)) ≡ cond (slot == x) (head_of xs) (following slot xs)
        first split =
            let other : slot ≡ x → ⊥ = λ e. once.0 (rw split.1 (inl (sym e))) in
            rw (ne_eqb slot x other, split.1, eq-eqb slot slot refl, h.0) refl
    go (inr h) more is =
        let there : following before xs ≡ Some slot = rw h.0 at is in
        let stands = coming_in (Some before) slot xs there in
        let other : slot ≡ x → ⊥ = λ e. once.0 (subst (λ (z : ℕ). IsIn z xs) e stands) in
        rw (ne_eqb slot x other, h.0) (more there)

-- what follows a slot comes after what was before it, once the slot is taken off
pub cut_follows : (before : Option ℕ) (slot : ℕ) (xs : List ℕ) → HasNoneTwice xs → coming_after before xs ≡ Some slot
    → coming_after before (without slot xs) ≡ following slot xs
cut_follows None slot xs once is = let split = head_splits slot xs is in rw split.1 (at_head slot split.0)
cut_follows (Some before) slot xs once is = behind before slot xs once is

-- what holds of the slots of a list holds of the one before
pub before_below : (before : Option ℕ) (slot : ℕ) (xs : List ℕ) (count : ℕ) → ((y : ℕ) → IsIn y xs → y < count)
    → coming_after before xs ≡ Some slot → IfSome before (λ b. b < count)
before_below None slot xs count below comes = tt
before_below (Some before) slot xs count below comes = below before (before_in before slot xs comes)
