-- Numbers that each have a label of their own, and numbers that get a label.
use Rattle.std.proofs.Common.{◌≡◌, ◌≢◌, ◌<◌, ◌≤◌, ◌⊎◌, ◌∙◌, ◌+◌, ◌++◌, ℕ, zero, suc, List, [], ◌∷◌, Contains, Some, length, slice_get, slice_set, take, refl, sym, ap, subst, inl, inr, arith}
use Rattle.std.proofs.lemmas.Bool.{cases_eq, cases_lt}
use Rattle.std.proofs.lemmas.List.{get_or_append_left, get_or_past, length-set}
use Rattle.std.proofs.lemmas.Option.{get_or_from_slice_get, slice_get_within}
use Rattle.entity_ties.specs.Classes.{AreSingle, IsRelabelled, numbers_of}
use Rattle.entity_ties.proofs.Items.{at_old, at_end, at_set, at_other, pushed, length_push, taken, just_taken, still_taken, none_taken}

-- ---- each number alone

-- a list with nothing in it
no_items : {A : Type 0} (xs : List A) → length xs ≡ 0 → (i : ℕ) (x : A) → slice_get xs i ≡ Some x → ⊥
no_items xs none i x at = omega (arith, slice_get_within xs i x at)

no_numbers : (members : List (List ℕ)) → length members ≡ 0 → (n a : ℕ) → Contains (numbers_of members n) a → ⊥
no_numbers members none n a c =
    let past : numbers_of members n ≡ [] = get_or_past members n [] (omega arith) in
    let empty : Contains [] a = subst (λ (l : List ℕ). Contains l a) past c in
    omega (arith, empty.1)

pub single_none : (labels : List ℕ) (members : List (List ℕ)) → length labels ≡ 0 → length members ≡ 0
    → AreSingle 0 labels members
single_none labels members no_labels no_members = record {
  many = no_labels;
  own = λ a below. absurd (omega arith);
  classes = record {
    as_many = no_members ∙ sym no_labels;
    within = λ a n at. absurd (no_items labels no_labels a n at);
    each = λ a n at. absurd (no_items labels no_labels a n at);
    only = λ a n c. absurd (no_numbers members no_members n a c);
  };
}

kept_numbers : (members : List (List ℕ)) (class : List ℕ) (n : ℕ) → n < length members → numbers_of
    (members ++ class ∷ []) n ≡ numbers_of members n
kept_numbers members class n below = get_or_append_left members (class ∷ []) [] n below

new_numbers : (members : List (List ℕ)) (class : List ℕ) (n : ℕ) → n ≡ length members → numbers_of
    (members ++ class ∷ []) n ≡ class
new_numbers members class n e = get_or_from_slice_get (members ++ class ∷ []) n class [] (at_end members class n e)

-- an item of a list of one item is that item
the_one : (n a : ℕ) → Contains (n ∷ []) a → n ≡ a
the_one n a (zero, below, is) = is
the_one n a (suc k, below, is) = absurd (omega (arith, below))

pub single_more : (count : ℕ) (labels : List ℕ) (members : List (List ℕ)) → AreSingle count labels members
    → AreSingle (count + 1) (labels ++ count ∷ []) (members ++ (count ∷ []) ∷ [])
single_more count labels members s = record {
  many = length_push labels count ∙ omega (arith, s.many);
  own = λ a below. own a below (cases_lt a count);
  classes = record {
    as_many = length_push members (count ∷ []) ∙ (omega (arith, s.classes.as_many) ∙ sym (length_push labels count));
    within = λ a n at. within a n (pushed labels count a n at);
    each = λ a n at. each a n (pushed labels count a n at);
    only = λ a n c. only a n c (cases_lt n count) (cases_lt count n);
  };
}
  where
    new : List ℕ
    new = labels ++ count ∷ []

    own : (a : ℕ) → a < count + 1 → (a < count) ⊎ (count ≤ a) → slice_get (labels ++ count ∷ []) a ≡ Some a
    own a below (inl low) = at_old labels (count ∷ []) a (omega (arith, s.many)) ∙ s.own a low
    own a below (inr high) = (let same : count ≡ a = omega arith in at_end labels count a (omega (arith, s.many)) ∙ ap Some same)

    within : (a n : ℕ) → ((a < length labels) × (slice_get labels a ≡ Some n)) ⊎ ((a ≡ length labels) × (count ≡ n))
        → n < length (labels ++ count ∷ [])
    within a n (inl was) = omega (arith, s.classes.within a n was.1, length_push labels count)
    within a n (inr is) = omega (arith, s.many, is.1, length_push labels count)

    each : (a n : ℕ) → ((a < length labels) × (slice_get labels a ≡ Some n)) ⊎ ((a ≡ length labels) × (count ≡ n))
        → Contains (numbers_of (members ++ (count ∷ []) ∷ []) n) a
    each a n (inl was) =
        let below : n < length members = omega (arith, s.classes.within a n was.1, s.classes.as_many) in
        subst (λ (l : List ℕ). Contains l a) (sym (kept_numbers members (count ∷ []) n below)) (s.classes.each a n was.1)
    each a n (inr is) =
        let place : n ≡ length members = omega (arith, s.many, s.classes.as_many, is.1) in
        let same : count ≡ a = omega (arith, s.many, is.0) in
        let alone : Contains (count ∷ []) a = (0, omega arith, same) in
        subst (λ (l : List ℕ). Contains l a) (sym (new_numbers members (count ∷ []) n place)) alone

    only : (a n : ℕ) → Contains (numbers_of (members ++ (count ∷ []) ∷ []) n) a → (n < count) ⊎ (count ≤ n) →
        (count < n) ⊎ (n ≤ count)
        → slice_get (labels ++ count ∷ []) a ≡ Some n
    only a n c (inl low) other =
        let below : n < length members = omega (arith, s.many, s.classes.as_many) in
        let was = s.classes.only a n (subst (λ (l : List ℕ). Contains l a) (kept_numbers members (count ∷ []) n below) c) in
        at_old labels (count ∷ []) a (slice_get_within labels a n was) ∙ was
    only a n c (inr high) (inl above) =
        let past : numbers_of (members ++ (count ∷ []) ∷ []) n ≡ [] =
        get_or_past (members ++ (count ∷ []) ∷ []) n []
        (omega (arith, s.many, s.classes.as_many, length_push members (count ∷ []))) in
        let empty : Contains [] a = subst (λ (l : List ℕ). Contains l a) past c in
        absurd (omega (arith, empty.1))
    only a n c (inr high) (inr below) =
        let place : n ≡ length members = omega (arith, s.many, s.classes.as_many) in
        let same : count ≡ a = the_one count a
        (subst (λ (l : List ℕ). Contains l a) (new_numbers members (count ∷ []) n place) c) in
        let is : count ≡ n = omega arith in
        at_end labels count a (omega (arith, s.many)) ∙ ap Some is

-- ---- numbers that get a label

pub relabelled_none : (to : ℕ) (moved labels : List ℕ) → IsRelabelled to (take 0 moved) labels labels
relabelled_none to moved labels = record {
  many = refl;
  these = λ a c. absurd (none_taken moved a c);
  others = λ a not_in. refl;
}

pub relabelled_more : (to i x : ℕ) (moved old new : List ℕ) → slice_get moved i ≡ Some x → x < length old
    → IsRelabelled to (take i moved) old new → IsRelabelled to (take (i + 1) moved) old (slice_set new x to)
relabelled_more to i x moved old new at inside is = record {
  many = length-set new x to ∙ is.many;
  these = λ a c. these a (cases_eq a x) (taken moved i x a at c);
  others = λ a not_in. others a not_in;
}
  where
    room : x < length new
    room = omega (arith, is.many)

    these : (a : ℕ) → (a ≡ x) ⊎ (a ≡ x → ⊥) → Contains (take i moved) a ⊎ (x ≡ a) → slice_get (slice_set new x to) a ≡ Some to
    these a (inl e) c = ap (slice_get (slice_set new x to)) e ∙ at_set new x to room
    these a (inr apart) (inl c) = at_other new x a to apart ∙ is.these a c
    these a (inr apart) (inr e) = absurd (apart (sym e))

    others : (a : ℕ) → (Contains (take (i + 1) moved) a → ⊥) → slice_get (slice_set new x to) a ≡ slice_get old a
    others a not_in =
        let apart : a ≢ x = λ e. not_in (subst (Contains (take (i + 1) moved)) (sym e) (just_taken moved i x at)) in
        let before : Contains (take i moved) a → ⊥ = λ c. not_in (still_taken moved i a (slice_get_within moved i x at) c) in
        at_other new x a to apart ∙ is.others a before
