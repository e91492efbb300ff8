-- Two classes that become one.
use Rattle.std.proofs.Common.{◌≡◌, ◌≢◌, ◌==◌, ◌<◌, ◌⊎◌, ◌∙◌, ◌++◌, ℕ, true, false, cond, List, [], All, Contains, Some, length, get_or, slice_get, slice_set, refl, sym, ap, subst, inl, inr, arith, get_or-set_other, get_or-set_same}
use Rattle.std.proofs.lemmas.Bool.{cases_eq}
use Rattle.std.proofs.lemmas.Bool.Decides.{eqb_tells}
use Rattle.std.proofs.lemmas.List.{length-set}
use Rattle.std.proofs.lemmas.List.Elements.{Contains-append_cases, Contains-append_left, Contains-append_right, Contains-get_or}
use Rattle.std.proofs.lemmas.Option.{same_Some, get_or_from_slice_get, slice_get_within}
use Rattle.part_laws.proofs.Rows.{there}
use Rattle.entity_ties.specs.Classes.{AreClasses, IsRelabelled, IsUnited, numbers_of, united}

-- ---- labels that become another

pub united_moved : (from to n : ℕ) → n ≡ from → united from to n ≡ to
united_moved from to n e = by (eqb_tells n from)
  where
    by : (((n == from) ≡ true) × (n ≡ from)) ⊎ (((n == from) ≡ false) × (n ≢ from)) → cond (n == from) to n ≡ to
    by (inl h) = ap (λ b. cond b to n) h.0
    by (inr h) = absurd (h.1 e)

pub united_kept : (from to n : ℕ) → n ≢ from → united from to n ≡ n
united_kept from to n apart = by (eqb_tells n from)
  where
    by : (((n == from) ≡ true) × (n ≡ from)) ⊎ (((n == from) ≡ false) × (n ≢ from)) → cond (n == from) to n ≡ n
    by (inl h) = absurd (apart h.1)
    by (inr h) = ap (λ b. cond b to n) h.0

-- ---- the lists of the classes

-- what is taken out, put behind the others, and put back
abbrev pub put_together : List (List ℕ) → ℕ → ℕ → List (List ℕ)
put_together members from to =
    slice_set (slice_set (slice_set members from []) to []) to (numbers_of (slice_set members from []) to
    ++ numbers_of members from)

pub lists_joined : (members : List (List ℕ)) (from to : ℕ) → from < length members → to < length members → from ≢ to
    → numbers_of (put_together members from to) to ≡ numbers_of members to ++ numbers_of members from
lists_joined members from to in_from in_to apart =
    let outer : to < length (slice_set (slice_set members from []) to []) =
    omega (arith, length-set members from [], length-set (slice_set members from []) to []) in
    let other : to ≢ from = λ e. apart (sym e) in
    get_or-set_same (slice_set (slice_set members from []) to []) to (numbers_of (slice_set members from []) to
    ++ numbers_of members from) [] outer
    ∙ ap (λ (l : List ℕ). l ++ numbers_of members from) (get_or-set_other members from to [] [] other)

pub list_emptied : (members : List (List ℕ)) (from to : ℕ) → from < length members → from ≢ to
    → numbers_of (put_together members from to) from ≡ []
list_emptied members from to in_from apart =
    get_or-set_other (slice_set (slice_set members from []) to []) to from _ [] apart
    ∙ (get_or-set_other (slice_set members from []) to from [] [] apart ∙ get_or-set_same members from [] [] in_from)

pub list_kept : (members : List (List ℕ)) (from to n : ℕ) → n ≢ from → n ≢ to
    → numbers_of (put_together members from to) n ≡ numbers_of members n
list_kept members from to n not_from not_to =
    get_or-set_other (slice_set (slice_set members from []) to []) to n _ [] not_to
    ∙ (get_or-set_other (slice_set members from []) to n [] [] not_to ∙ get_or-set_other members from n [] [] not_from)

-- ---- one class out of two

module _ (labels new : List ℕ) (members : List (List ℕ)) (from to : ℕ) (are : AreClasses labels members)
    (in_from : from < length members) (in_to : to < length members) (apart : from ≢ to)
    (is : IsRelabelled to (numbers_of members from) labels new) where
  -- what is moved is labelled so
  pub moved_are : (a n : ℕ) → slice_get labels a ≡ Some n → n ≡ from → slice_get new a ≡ Some to
  moved_are a n at e = is.these a (are.each a from (at ∙ ap Some e))

  pub others_are : (a n : ℕ) → slice_get labels a ≡ Some n → n ≢ from → slice_get new a ≡ Some n
  others_are a n at differs = is.others a (λ c. differs (same_Some n from (sym at ∙ are.only a from c))) ∙ at

  pub is_united : IsUnited from to labels new
  is_united = record { many = is.many; each = λ a n at. by a n at (cases_eq n from) }
    where
      by : (a n : ℕ) → slice_get labels a ≡ Some n → (n ≡ from) ⊎ (n ≡ from → ⊥) → slice_get new a ≡ Some (united from to n)
      by a n at (inl e) = moved_are a n at e ∙ ap Some (sym (united_moved from to n e))
      by a n at (inr differs) = others_are a n at differs ∙ ap Some (sym (united_kept from to n differs))

  -- what is labelled so after it was labelled so, or was moved
  was : (a n : ℕ) → slice_get new a ≡ Some n
      → ((slice_get labels a ≡ Some from) × (n ≡ to)) ⊎ ((slice_get labels a ≡ Some n) × (n ≢ from))
  was a n at = by found.0 found.1 (cases_eq found.0 from)
    where
      found : (m : ℕ) × (slice_get labels a ≡ Some m)
      found = there labels a (omega (arith, slice_get_within new a n at, is.many))

      by : (m : ℕ) → slice_get labels a ≡ Some m → (m ≡ from) ⊎ (m ≡ from → ⊥)
          → ((slice_get labels a ≡ Some from) × (n ≡ to)) ⊎ ((slice_get labels a ≡ Some n) × (n ≢ from))
      by m at_m (inl e) = inl (at_m ∙ ap Some e, same_Some n to (sym at ∙ moved_are a m at_m e))
      by m at_m (inr differs) =
          let same : m ≡ n = same_Some m n (sym (others_are a m at_m differs) ∙ at) in
          inr (at_m ∙ ap Some same, λ e. differs (same ∙ e))

  pub still_classes : AreClasses new (put_together members from to)
  still_classes = record {
    as_many = long ∙ (are.as_many ∙ sym is.many);
    within = λ a n at. within a n (was a n at);
    each = λ a n at. each a n (cases_eq n to) (was a n at);
    only = λ a n c. only a n (cases_eq n to) (cases_eq n from) c;
  }
    where
      long : length (put_together members from to) ≡ length members
      long = length-set (slice_set (slice_set members from []) to []) to _
          ∙ (length-set (slice_set members from []) to [] ∙ length-set members from [])

      within : (a n : ℕ) → ((slice_get labels a ≡ Some from) × (n ≡ to)) ⊎
          ((slice_get labels a ≡ Some n) × (n ≢ from)) → n < length new
      within a n (inl h) = omega (arith, h.1, in_to, are.as_many, is.many)
      within a n (inr h) = omega (arith, are.within a n h.0, is.many)

      each : (a n : ℕ) → (n ≡ to) ⊎ (n ≡ to → ⊥) → ((slice_get labels a ≡ Some from) × (n ≡ to)) ⊎
          ((slice_get labels a ≡ Some n) × (n ≢ from))
          → Contains (numbers_of (put_together members from to) n) a
      each a n (inl e) (inl h) =
          subst (λ (l : List ℕ). Contains l a)
          (sym (ap (numbers_of (put_together members from to)) e ∙ lists_joined members from to in_from in_to apart))
          (Contains-append_right (numbers_of members to) (numbers_of members from) a (are.each a from h.0))
      each a n (inl e) (inr h) =
          subst (λ (l : List ℕ). Contains l a)
          (sym (ap (numbers_of (put_together members from to)) e ∙ lists_joined members from to in_from in_to apart))
          (Contains-append_left (numbers_of members to) (numbers_of members from) a (are.each a to (h.0 ∙ ap Some e)))
      each a n (inr differs) (inl h) = absurd (differs h.1)
      each a n (inr differs) (inr h) =
          subst (λ (l : List ℕ). Contains l a) (sym (list_kept members from to n h.1 differs)) (are.each a n h.0)

      of_both : (a n : ℕ) → n ≡ to → Contains (numbers_of members to) a ⊎ Contains (numbers_of members from) a
          → slice_get new a ≡ Some n
      of_both a n e (inl c) = others_are a to (are.only a to c) (λ s. apart (sym s)) ∙ ap Some (sym e)
      of_both a n e (inr c) = moved_are a from (are.only a from c) refl ∙ ap Some (sym e)

      only : (a n : ℕ) → (n ≡ to) ⊎ (n ≡ to → ⊥) → (n ≡ from) ⊎ (n ≡ from → ⊥)
          → Contains (numbers_of (put_together members from to) n) a
          → slice_get new a ≡ Some n
      only a n (inl e) other c =
          of_both a n e (Contains-append_cases (numbers_of members to) (numbers_of members from) a
          (subst (λ (l : List ℕ). Contains l a) (ap (numbers_of (put_together members from to)) e
          ∙ lists_joined members from to in_from in_to apart) c))
      only a n (inr differs) (inl e) c =
          let empty : Contains [] a = subst (λ (l : List ℕ). Contains l a)
          (ap (numbers_of (put_together members from to)) e ∙ list_emptied members from to in_from apart) c in
          absurd (omega (arith, empty.1))
      only a n (inr differs) (inr not_from) c =
          others_are a n (are.only a n (subst (λ (l : List ℕ). Contains l a)
          (list_kept members from to n not_from differs) c)) not_from

-- what is moved is there
pub moved_inside : (labels numbers : List ℕ) (members : List (List ℕ)) (from : ℕ) → AreClasses labels members
    → slice_get members from ≡ Some numbers → All (λ a. a < length labels) numbers
moved_inside labels numbers members from are at k d below =
    let same : numbers_of members from ≡ numbers = get_or_from_slice_get members from numbers [] at in
    let one = get_or numbers k d in
    let has : Contains (numbers_of members from) one = subst (λ (l : List ℕ). Contains l one) (sym same)
    (Contains-get_or numbers k d below) in
    slice_get_within labels one from (are.only one from has)

-- two classes are one, by what was taken out and put back
pub one_class : (labels new : List ℕ) (members after : List (List ℕ)) (from to : ℕ) (moved class : List ℕ)
    → AreClasses labels members
    → from < length members → to < length members → from ≢ to
    → slice_get members from ≡ Some moved → IsRelabelled to moved labels new → slice_get (slice_set members from [])
    to ≡ Some class
    → after ≡ slice_set (slice_set (slice_set members from []) to []) to (class ++ moved) → AreClasses new after ×
    IsUnited from to labels new
one_class labels new members after from to moved class are in_from in_to apart at_moved is at_class after_is =
    let of_moved : numbers_of members from ≡ moved = get_or_from_slice_get members from moved [] at_moved in
    let of_class : numbers_of (slice_set members from []) to ≡ class = get_or_from_slice_get
    (slice_set members from []) to class [] at_class in
    let is' : IsRelabelled to (numbers_of members from) labels new = subst (λ l. IsRelabelled to l labels new)
    (sym of_moved) is in
    let after_is' : put_together members from to ≡ after =
    ap (λ l. slice_set (slice_set (slice_set members from []) to []) to (l ++ numbers_of members from)) of_class
    ∙ (ap (λ l. slice_set (slice_set (slice_set members from []) to []) to (class ++ l)) of_moved ∙ sym after_is) in (
      subst (AreClasses new) after_is' (still_classes labels new members from to are in_from in_to apart is'),
      is_united labels new members from to are in_from in_to apart is',
    )
