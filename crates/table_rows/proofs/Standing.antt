-- Lists of names: which stand there, at which place, and that none stands twice.
use Rattle.std.proofs.Common.{◌≡◌, ◌⊎◌, inl, inr, add-zero, ◌∙◌, ◌<◌, ◌≤◌, ℕ, ◌+◌, Bool, true, false, cond, Some, None, List, [], ◌∷◌, ◌++◌, length, get_or, slice_get, Contains, sym, refl, ap, arith, rules, append_assoc, length-append}
use Rattle.std.specs.Cmp.{IsEquivalence}
use Rattle.std.specs.Cmp.Rules.{comparing}
use Rattle.std.specs.List.{list_any, position_or_len, IsDistinct}
use Rattle.std.specs.Bool.{OnTrue, OnFalse}
use Rattle.std.specs.Str.{bytes_eq}
use Rattle.std.proofs.lemmas.Bool.{cases_Bool, false_from_ne_true, both_ways}
use Rattle.std.proofs.lemmas.List.{append-nil}
use Rattle.std.proofs.lemmas.List.Folds.{list_any-append, list_any_at}
use Rattle.std.proofs.lemmas.List.Sums.{position_or_len_is}
use Rattle.std.proofs.lemmas.Map.Keys.{IsDistinct-push}
use Rattle.std.proofs.lemmas.Map.Made.{AllPairs-from_IsDistinct}
use Rattle.std.proofs.lemmas.Map.Views.{Contains-from_any}
use Rattle.std.proofs.lemmas.Option.{get_or_from_slice_get, slice_get_within}
use Rattle.std.proofs.lemmas.Slice.Eq.{bytes_eq-Decides}
use Rattle.currency_base.specs.Lists.{OnlyOnce}
use Rattle.table_rows.specs.Rows.{first_standing, first_repeat}

-- no name is equal to one after it
abbrev pub AreDistinct : List (List ℕ) → Type 0
AreDistinct names = IsDistinct bytes_eq names

is_equivalence : IsEquivalence bytes_eq
is_equivalence = search (comparing, rules)

pub none_distinct : AreDistinct []
unfolding IsDistinct
none_distinct = tt

-- distinct names stand at one place each
pub only_once : (names : List (List ℕ)) → AreDistinct names → OnlyOnce names
only_once names distinct i j x at_i at_j =
    let apart = AllPairs-from_IsDistinct bytes_eq-Decides names distinct in
    let same = get_or_from_slice_get names i x [] at_i ∙ sym (get_or_from_slice_get names j x [] at_j) in
    let not_below : i < j → ⊥ = λ below. apart i j [] below (slice_get_within names j x at_j) same in
    let not_above : j < i → ⊥ = λ above. apart j i [] above (slice_get_within names i x at_i) (sym same) in
    omega arith

-- a name that stands at a place is found
pub taken : (names : List (List ℕ)) (name : List ℕ) (place : ℕ) → slice_get names place ≡ Some name
    → list_any (bytes_eq name) names ≡ true
taken names name place there =
    list_any_at (bytes_eq name) names place [] (slice_get_within names place name there)
    ((bytes_eq-Decides name _).1 (sym (get_or_from_slice_get names place name [] there)))

-- a name that stands nowhere is not found
pub untaken : (names : List (List ℕ)) (name : List ℕ) → (Contains names name → ⊥) → list_any (bytes_eq name) names ≡ false
untaken names name absent =
    false_from_ne_true _ (λ there. absent (Contains-from_any (λ x y e. (bytes_eq-Decides x y).0 e) name names there))

-- of distinct names, the place of a name is where it stands
pub place_is : (names : List (List ℕ)) (name : List ℕ) (place : ℕ) → AreDistinct names → slice_get names place ≡ Some name
    → position_or_len (bytes_eq name) names ≡ place
place_is names name place distinct there =
    let within : place < length names = slice_get_within names place name there in
    let is_name : get_or names place [] ≡ name = get_or_from_slice_get names place name [] there in
    let earlier : (k : ℕ) → k < place → bytes_eq name (get_or names k []) ≡ false =
    λ k below. false_from_ne_true _ (λ e.
    AllPairs-from_IsDistinct bytes_eq-Decides names distinct k place [] below within
    (sym ((bytes_eq-Decides name _).0 e) ∙ sym is_name)) in
    position_or_len_is (bytes_eq name) names place [] (omega arith) earlier (λ _. (bytes_eq-Decides name _).1 (sym is_name))

-- a name that stands in a list keeps its place where the list grows
pub place_stays : (p : List ℕ → Bool) (names more : List (List ℕ)) → list_any p names ≡ true
    → position_or_len p (names ++ more) ≡ position_or_len p names
place_stays p [] more there = absurd (both_ways false refl there)
place_stays p (name ∷ names) more there =
    elim (cases_Bool (p name)) [
      | inl e ↦ rw (e) refl
      | inr e ↦ let rest : list_any p names ≡ true = rw e at there in rw e (ap (λ n. 1 + n) (place_stays p names more rest))
    ]

pub place_within : (p : List ℕ → Bool) (names : List (List ℕ)) → list_any p names ≡ true → position_or_len p names < length names
place_within p [] there = absurd (both_ways false refl there)
place_within p (name ∷ names) there =
    elim (cases_Bool (p name)) [
      | inl e ↦ rw e (omega arith)
      | inr e ↦ let rest : list_any p names ≡ true = rw e at there in rw e (let h = place_within p names rest in omega arith)
    ]

-- ---- the names without those that stand before

pub standing_append : (so_far xs ys : List (List ℕ)) → first_standing so_far (xs ++ ys) ≡ first_standing
    (first_standing so_far xs) ys
standing_append so_far [] ys = refl
standing_append so_far (x ∷ xs) ys = standing_append (cond (list_any (bytes_eq x) so_far) so_far (so_far ++ x ∷ [])) xs ys

-- one more name: nothing new, or the name at the end
pub standing_one : (so_far : List (List ℕ)) (x : List ℕ)
    → ((list_any (bytes_eq x) so_far ≡ true) × (first_standing so_far (x ∷ []) ≡ so_far))
    ⊎ ((list_any (bytes_eq x) so_far ≡ false) × (first_standing so_far (x ∷ []) ≡ so_far ++ x ∷ []))
standing_one so_far x =
    elim (cases_Bool (list_any (bytes_eq x) so_far)) [ inl e ↦ inl (e, rw e refl) | inr e ↦ inr (e, rw e refl) ]

pub standing_distinct : (so_far names : List (List ℕ)) → AreDistinct so_far → AreDistinct (first_standing so_far names)
standing_distinct so_far [] distinct = distinct
standing_distinct so_far (x ∷ xs) distinct =
    let next = cond (list_any (bytes_eq x) so_far) so_far (so_far ++ x ∷ []) in
    let still : AreDistinct next =
    elim (cases_Bool (list_any (bytes_eq x) so_far)) [
      | inl e ↦ rw e distinct
      | inr e ↦ rw e (IsDistinct-push is_equivalence so_far x distinct e)
    ] in
    standing_distinct next xs still

pub standing_few : (so_far names : List (List ℕ)) → length (first_standing so_far names) ≤ length so_far + length names
standing_few so_far [] = omega arith
standing_few so_far (x ∷ xs) =
    let next = cond (list_any (bytes_eq x) so_far) so_far (so_far ++ x ∷ []) in
    let few : length next ≤ length so_far + 1 =
    elim (cases_Bool (list_any (bytes_eq x) so_far)) [
      | inl e ↦ rw e (omega arith)
      | inr e ↦ rw e (rw length-append (omega arith))
    ] in
    let h = standing_few next xs in
    omega arith

-- what stands there goes on standing
pub standing_kept : (p : List ℕ → Bool) (so_far names : List (List ℕ)) → list_any p so_far ≡ true → list_any p
    (first_standing so_far names) ≡ true
standing_kept p so_far [] there = there
standing_kept p so_far (x ∷ xs) there =
    let next = cond (list_any (bytes_eq x) so_far) so_far (so_far ++ x ∷ []) in
    let still : list_any p next ≡ true =
    elim (cases_Bool (list_any (bytes_eq x) so_far)) [
      | inl e ↦ rw e there
      | inr e ↦ rw e (list_any-append p so_far (x ∷ []) ∙ rw there refl)
    ] in
    standing_kept p next xs still

-- ---- a name that stands twice

-- names of which none stands before are distinct
pub unrepeated_distinct : (place : ℕ) (so_far names : List (List ℕ)) → AreDistinct so_far → first_repeat place so_far names ≡ None
    → AreDistinct (so_far ++ names)
unrepeated_distinct place so_far [] distinct none = rw append-nil distinct
unrepeated_distinct place so_far (x ∷ xs) distinct none =
    elim (cases_Bool (list_any (bytes_eq x) so_far)) [
      | inl e ↦ let no : Some place ≡ None = rw e at none in absurd (cc)
      | inr e ↦
          let rest : first_repeat (place + 1) (so_far ++ x ∷ []) xs ≡ None = rw e at none in
          let all : AreDistinct ((so_far ++ x ∷ []) ++ xs) =
          unrepeated_distinct (place + 1) (so_far ++ x ∷ []) xs (IsDistinct-push is_equivalence so_far x distinct e) rest in
          rw append_assoc at all
    ]

-- the first name that stands before is sought behind names of which none does
pub repeat_append : (place : ℕ) (so_far xs ys : List (List ℕ)) → first_repeat place so_far xs ≡ None
    → first_repeat place so_far (xs ++ ys) ≡ first_repeat (place + length xs) (so_far ++ xs) ys
repeat_append place so_far [] ys none = rw (append-nil, add-zero) refl
repeat_append place so_far (x ∷ xs) ys none =
    elim (cases_Bool (list_any (bytes_eq x) so_far)) [
      | inl e ↦ let no : Some place ≡ None = rw e at none in absurd (cc)
      | inr e ↦
          let rest : first_repeat (place + 1) (so_far ++ x ∷ []) xs ≡ None = rw e at none in
          let h = repeat_append (place + 1) (so_far ++ x ∷ []) xs ys rest in
          let same_place : place + 1 + length xs ≡ place + length (x ∷ xs) = omega arith in
          let same_names : (so_far ++ x ∷ []) ++ xs ≡ so_far ++ x ∷ xs = append_assoc so_far (x ∷ []) xs in
          rw e (h ∙ rw (same_place, same_names) refl)
    ]

-- ---- a name that is added where it is new

pub stands_added : (old new : List (List ℕ)) (name : List ℕ) (place : ℕ) (is_new : Bool)
    → slice_get new place ≡ Some name
    → OnTrue is_new (new ≡ old ++ name ∷ []) → OnTrue is_new (Contains old name → ⊥) → OnFalse is_new (new ≡ old)
    → new ≡ first_standing old (name ∷ [])
stands_added old new name place true at_place fresh was_new known =
    elim (standing_one old name) [
      | inl (e, same) ↦ absurd (both_ways _ (untaken old name was_new) e)
      | inr (e, same) ↦ fresh ∙ sym same
    ]
stands_added old new name place false at_place fresh was_new known =
    let there : list_any (bytes_eq name) old ≡ true = taken old name place (rw known at at_place) in
    elim (standing_one old name) [
      | inl (e, same) ↦ known ∙ sym same
      | inr (e, same) ↦ absurd (both_ways _ e there)
    ]
