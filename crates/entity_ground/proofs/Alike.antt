-- Rows of one value among rows that stand by their values.
use Rattle.std.proofs.Common.{◌≡◌, ◌≢◌, ◌-◌, ◌<◌, ◌≤◌, ◌⊎◌, inl, inr, ℕ, zero, suc, Bool, true, false, not, ◌&&◌, cond, eqb, ltb, leb, List, [], ◌∷◌, length, slice_range, slice_index_or, Option, None, Some, refl, sym, ap, ◌∙◌, arith}
use Rattle.std.specs.Cmp.{IsTotalOrder, IsStrictWeakOrder}
use Rattle.std.specs.Cmp.Lexicographic.{options_total}
use Rattle.std.specs.List.{filter, AllWithin}
use Rattle.std.specs.List.Sorted.{IsNonDecreasingBy, ties}
use Rattle.std.specs.Option.{option_cmp}
use Rattle.std.specs.Ordering.{is_lt, ordering_index, ordering_reverse}
use Rattle.std.specs.declared.cmp.Ordering.{Ordering}
use Rattle.std.specs.declared.cmp.Ordering.TheVariants.{Less, Equal, Greater}
use Rattle.std.proofs.lemmas.Cmp.{int_cmp_total, nat_list_cmp_total}
use Rattle.std.proofs.lemmas.Bool.{false≢true, cases_lt, ltb-true, leb-true, leb-false}
use Rattle.std.proofs.lemmas.Bool.Decides.{eqb_tells}
use Rattle.std.proofs.lemmas.List.Elements.{filter_agree}
use Rattle.std.proofs.lemmas.List.Sorted.{ranks_by, searchable_from_sorted}
use Rattle.std.proofs.lemmas.Map.Lookups.{CmpEqualImpliesEq, exact_bytes, exact_signed}
use Rattle.currency_base.specs.Values.{value_cmp, holds_at}
use Rattle.currency_base.specs.declared.ids.AttrId.{AttrId}
use Rattle.currency_base.specs.declared.ids.RowId.{RowId}
use Rattle.currency_base.specs.declared.row.Row.{Row}
use Rattle.currency_base.specs.declared.value.Cmp.TheVariants.{Eq}
use Rattle.currency_base.specs.declared.value.Value.{Value}
use Rattle.currency_base.specs.declared.value.Value.TheVariants.{Int, Text}
use Rattle.denial_rules.specs.Instances.{is_compared}
use Rattle.entity_ground.specs.Lookups.{key_of, is_lower, rank_to, is_alike, IsByValue, StartsAt, EndsAt}

-- ---- the order of values

pub exact_values : CmpEqualImpliesEq value_cmp
exact_values (Int a) (Int b) e = ap Int (exact_signed a b e)
exact_values (Int a) (Text b) e = cc
exact_values (Text a) (Int b) e = cc
exact_values (Text a) (Text b) e = ap Text (exact_bytes a b e)

value_antisymm : (x y : Value) → value_cmp x y ≡ ordering_reverse (value_cmp y x)
value_antisymm (Int a) (Int b) = int_cmp_total.antisymm a b
value_antisymm (Int a) (Text b) = refl
value_antisymm (Text a) (Int b) = refl
value_antisymm (Text a) (Text b) = nat_list_cmp_total.antisymm a b

value_trans : (x y z : Value) → value_cmp x y ≡ Less → value_cmp y z ≡ Less → value_cmp x z ≡ Less
value_trans (Int a) (Int b) (Int c) p q = int_cmp_total.trans a b c p q
value_trans (Int a) (Int b) (Text c) p q = refl
value_trans (Int a) (Text b) (Int c) p q = cc
value_trans (Int a) (Text b) (Text c) p q = refl
value_trans (Text a) (Int b) z p q = cc
value_trans (Text a) (Text b) (Int c) p q = cc
value_trans (Text a) (Text b) (Text c) p q = nat_list_cmp_total.trans a b c p q

value_total : IsTotalOrder value_cmp
value_total = record {
  antisymm = value_antisymm;
  trans = value_trans;
  congr = λ x y z e. ap (λ v. value_cmp v z)
      (exact_values x y e);
}

pub lower_orders : (table : List Row) (attr : AttrId) → IsStrictWeakOrder (is_lower table attr)
lower_orders table attr = ranks_by (options_total value_total) (key_of table attr)

-- equal either way round
pub equal_either : (a b : Option Value) → is_compared a Eq b ≡ is_compared b Eq a
equal_either None None = refl
equal_either None (Some b) = refl
equal_either (Some a) None = refl
equal_either (Some a) (Some b) = ap (holds_at Eq) (value_antisymm a b) ∙ by (value_cmp b a)
  where
    by : (o : Ordering) → holds_at Eq (ordering_reverse o) ≡ holds_at Eq o
    by Less = refl
    by Equal = refl
    by Greater = refl

-- ---- ranks

pub ranks_rise : (table : List Row) (attr : AttrId) (members rows : List RowId) (value : Value)
    → IsByValue table attr members rows → IsNonDecreasingBy (rank_to table attr value) rows
ranks_rise table attr members rows value is = searchable_from_sorted (options_total value_total) (key_of table attr)
    rows (Some value) is.sorted

alike_rank : (own : Option Value) (value : Value) → is_compared own Eq (Some value) ≡ eqb
    (ordering_index (option_cmp value_cmp own (Some value))) 1
alike_rank None value = refl
alike_rank (Some a) value = by (value_cmp a value)
  where
    by : (o : Ordering) → holds_at Eq o ≡ eqb (ordering_index o) 1
    by Less = refl
    by Equal = refl
    by Greater = refl

below_one : (n : ℕ) → ltb n 1 ≡ true → eqb n 1 ≡ false
below_one zero is = refl
below_one (suc n) is = let less = ltb-true (suc n) 1 is in absurd (omega arith)

above_one : (n : ℕ) → leb n 1 ≡ false → eqb n 1 ≡ false
above_one n is = by (eqb_tells n 1)
  where
    by : ((eqb n 1 ≡ true) × (n ≡ 1)) ⊎ ((eqb n 1 ≡ false) × (n ≢ 1)) → eqb n 1 ≡ false
    by (inl same) = let more = leb-false n 1 is in absurd (omega (arith, more, same.1))
    by (inr other) = other.0

just_one : (n : ℕ) → ltb n 1 ≡ false → leb n 1 ≡ true → eqb n 1 ≡ true
just_one zero low high = absurd (false≢true (sym low))
just_one (suc zero) low high = refl
just_one (suc (suc n)) low high = let most = leb-true (suc (suc n)) 1 high in absurd (omega arith)

-- ---- the part of a list that passes a test

later : {A : Type 0} (P : A → Type 0) (x : A) (xs : List A) (low high : ℕ) → AllWithin P (x ∷ xs) (suc low)
    (suc high) → AllWithin P xs low high
later P x xs low high all k d from below = all (suc k) d (omega arith) (omega arith)

within : {A : Type 0} (P : A → Type 0) (x : A) (xs : List A) (high : ℕ) → AllWithin P (x ∷ xs) 0 (suc high)
    → AllWithin P xs 0 high
within P x xs high all k d from below = all (suc k) d (omega arith) (omega arith)

-- where just the items of one stretch pass, they are what a filter keeps
stretch : {A : Type 0} (test : A → Bool) (xs : List A) (start end : ℕ) → start ≤ end → end ≤ length xs
    → AllWithin (λ x. test x ≡ false) xs 0 start
    → AllWithin (λ x. test x ≡ true) xs start end → AllWithin (λ x. test x ≡ false) xs end (length xs)
    → slice_range xs start end ≡ filter test xs
stretch test [] zero zero order inside before here after = refl
stretch test [] zero (suc end) order inside before here after = absurd (omega (arith, inside))
stretch test [] (suc start) end order inside before here after = absurd (omega (arith, inside, order))
stretch test (x ∷ xs) zero zero order inside before here after =
    let none : test x ≡ false = after 0 x (omega arith) (omega arith) in
    rw none (stretch test xs zero zero order (omega arith) (λ k d from below. absurd (omega arith))
    (λ k d from below. absurd (omega arith)) (within (λ y. test y ≡ false) x xs (length xs) after))
stretch test (x ∷ xs) zero (suc end) order inside before here after =
    let some : test x ≡ true = here 0 x (omega arith) (omega arith) in
    let more : suc end - 0 ≡ suc (end - 0) = omega arith in
    rw (some, more) (ap (λ l. x ∷ l) (stretch test xs zero end (omega arith) (omega (arith, inside))
    (λ k d from below. absurd (omega arith))
    (within (λ y. test y ≡ true) x xs end here) (later (λ y. test y ≡ false) x xs end (length xs) after)))
stretch test (x ∷ xs) (suc start) zero order inside before here after = absurd (omega (arith, order))
stretch test (x ∷ xs) (suc start) (suc end) order inside before here after =
    let none : test x ≡ false = before 0 x (omega arith) (omega arith) in
    let less : suc end - suc start ≡ end - start = omega arith in
    rw (none, less) (stretch test xs start end (omega (arith, order)) (omega (arith, inside))
    (within (λ y. test y ≡ false) x xs start before)
    (later (λ y. test y ≡ true) x xs start end here) (later (λ y. test y ≡ false) x xs end (length xs) after))

-- ---- stable

some_or_none : {A : Type 0} (test : A → Bool) (xs : List A) → (filter test xs ≡ []) ⊎ ((x : A) × (test x ≡ true))
some_or_none test [] = inl refl
some_or_none {A} test (x ∷ xs) = by (test x) refl (some_or_none test xs)
  where
    by : (b : Bool) → test x ≡ b → (filter test xs ≡ []) ⊎ ((y : A) × (test y ≡ true)) →
        (cond b (x ∷ filter test xs) (filter test xs) ≡ []) ⊎ ((y : A) × (test y ≡ true))
    by true tested more = inr (x, tested)
    by false tested more = more

tied : (value : Value) (own : Option Value)
    → is_compared own Eq (Some value) ≡ not (is_lt (option_cmp value_cmp (Some value) own))
    && not (is_lt (option_cmp value_cmp own (Some value)))
tied value None = refl
tied value (Some b) = by (value_cmp b value) ∙ ap (λ o. not (is_lt o) && not (is_lt (value_cmp b value)))
    (sym (value_antisymm value b))
  where
    by : (o : Ordering) → holds_at Eq o ≡ not (is_lt (ordering_reverse o)) && not (is_lt o)
    by Less = refl
    by Equal = refl
    by Greater = refl

known_key : (own : Option Value) (value : Value) → is_compared own Eq (Some value) ≡ true → own ≡ Some value
known_key None value is = absurd (false≢true is)
known_key (Some a) value is = ap (λ v. Some v) (exact_values a value (by (value_cmp a value) is))
  where
    by : (o : Ordering) → holds_at Eq o ≡ true → o ≡ Equal
    by Less holds = absurd (false≢true holds)
    by Equal holds = refl
    by Greater holds = absurd (false≢true holds)

ties_alike : (table : List Row) (attr : AttrId) (value : Value) (x y : RowId) → is_alike table attr (Some value) x ≡ true
    → is_alike table attr (Some value) y ≡ ties (is_lower table attr) x y
ties_alike table attr value x y is =
    let own : key_of table attr x ≡ Some value = known_key (key_of table attr x) value is in
    tied value (key_of table attr y)
    ∙ ap (λ k. not (is_lt (option_cmp value_cmp k (key_of table attr y)))
    && not (is_lt (option_cmp value_cmp (key_of table attr y) k))) (sym own)

same_alike : (table : List Row) (attr : AttrId) (members rows : List RowId) (value : Value) → IsByValue table attr members rows
    → filter (is_alike table attr (Some value)) rows ≡ filter (is_alike table attr (Some value)) members
same_alike table attr members rows value is = by (some_or_none test rows) (some_or_none test members)
  where
    test : RowId → Bool
    test = is_alike table attr (Some value)

    at : (x : RowId) → test x ≡ true → filter test rows ≡ filter test members
    at x passes =
        filter_agree test (ties (is_lower table attr) x) (λ y. ties_alike table attr value x y passes) rows
        ∙ is.stable x
        ∙ sym (filter_agree test (ties (is_lower table attr) x) (λ y. ties_alike table attr value x y passes) members)

    by : (filter test rows ≡ []) ⊎ ((x : RowId) × (test x ≡ true)) → (filter test members ≡ []) ⊎
        ((x : RowId) × (test x ≡ true)) → filter test rows ≡ filter test members
    by (inl none) (inl nothing) = none ∙ sym nothing
    by (inl none) (inr some) = at some.0 some.1
    by (inr some) more = at some.0 some.1

-- ---- where the rows of a value start and end

pub in_order : (table : List Row) (attr : AttrId) (value : Value) (rows : List RowId) (start end : ℕ)
    → start ≤ length rows → StartsAt table attr value rows start
    → EndsAt table attr value rows end → start ≤ end
in_order table attr value rows start end inside starts ends = by (cases_lt end start)
  where
    by : (end < start) ⊎ (start ≤ end) → start ≤ end
    by (inr is) = is
    by (inl crossed) =
        let d : RowId = record { 0 = 0 } in
        let low = ltb-true _ 1 (starts.0 end d (omega arith) crossed) in
        let high = leb-false _ 1 (ends.1 end d (omega arith) (omega (arith, crossed, inside))) in
        absurd (omega (arith, low, high))

pub alike_rows : (table : List Row) (attr : AttrId) (members rows : List RowId) (value : Value) (start end : ℕ)
    → IsByValue table attr members rows → start ≤ length rows → end ≤ length rows
    → StartsAt table attr value rows start → EndsAt table attr value rows end → slice_range rows start end ≡ filter
    (is_alike table attr (Some value)) members
alike_rows table attr members rows value start end is inside within starts ends =
    let test = is_alike table attr (Some value) in
    stretch test rows start end (in_order table attr value rows start end inside starts ends) within
    (λ k d from below. alike_rank (key_of table attr (slice_index_or rows k d)) value ∙ below_one _ (starts.0 k d from below))
    (λ k d from below. alike_rank (key_of table attr (slice_index_or rows k d)) value ∙ just_one _
    (starts.1 k d from (omega (arith, below, within))) (ends.0 k d (omega arith) below))
    (λ k d from below. alike_rank (key_of table attr (slice_index_or rows k d)) value ∙ above_one _ (ends.1 k d from below))
    ∙ same_alike table attr members rows value is
