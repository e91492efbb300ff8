-- Tuples of one value among tuples that stand by their values.
use Rattle.std.proofs.Common.{◌≡◌, ◌-◌, ◌<◌, ◌≤◌, ◌⊎◌, inl, inr, ℕ, zero, suc, List, [], ◌∷◌, length, get_or, slice_range, Some, slice_get, option_and_then, ap, ◌∙◌, arith}
use Rattle.std.specs.Cmp.{IsStrictWeakOrder}
use Rattle.std.specs.Cmp.Lexicographic.{options_total}
use Rattle.std.specs.List.{Contains}
use Rattle.std.specs.List.Sorted.{IsNonDecreasingBy, IsSortedBy}
use Rattle.std.specs.Option.{option_cmp}
use Rattle.std.specs.Ordering.{ordering_index}
use Rattle.std.proofs.lemmas.Bool.{cases_lt, ltb-true, leb-false}
use Rattle.std.proofs.lemmas.List.Sorted.{ranks_by, searchable_from_sorted}
use Rattle.currency_base.specs.Values.{value_cmp}
use Rattle.currency_base.specs.declared.ids.EntId.{EntId}
use Rattle.currency_base.specs.declared.value.Value.{Value}
use Rattle.ucq_answers.specs.Lookups.{AreAlike, EndsAt, IsByValue, StartsAt, is_lower, key_of, rank_to}
use Rattle.ucq_answers.specs.TupleOrder.{value_total}
use Rattle.ucq_answers.proofs.Values.{value_same}

pub lower_orders : (tuples : List (List Value)) (place : ℕ) → IsStrictWeakOrder (is_lower tuples place)
lower_orders tuples place = ranks_by (options_total value_total) (key_of tuples place)

pub ranks_rise : (tuples : List (List Value)) (place : ℕ) (ents : List EntId) (value : Value)
    → IsSortedBy (is_lower tuples place) ents → IsNonDecreasingBy (rank_to tuples place value) ents
ranks_rise tuples place ents value sorted = searchable_from_sorted (options_total value_total) (key_of tuples place) ents
    (Some value) sorted

-- where the tuples of a value start and end

pub in_order : (tuples : List (List Value)) (place : ℕ) (value : Value) (ents : List EntId) (start end : ℕ)
    → start ≤ length ents → StartsAt tuples place value ents start
    → EndsAt tuples place value ents end → start ≤ end
in_order tuples place value ents start end inside starts ends = by (cases_lt end start)
  where
    by : (end < start) ⊎ (start ≤ end) → start ≤ end
    by (inr is) = is
    by (inl crossed) =
        let d : EntId = record { 0 = 0 } in
        let low = ltb-true _ 1 (starts.0 end d (omega arith) crossed) in
        let high = leb-false _ 1 (ends.1 end d (omega arith) (omega (arith, crossed, inside))) in
        absurd (omega (arith, low, high))

-- an item from a first place on, and before a last one
pub read_range : {A : Type 0} (xs : List A) (start end k : ℕ) (x : A) → start ≤ k → k < end → end ≤ length xs
    → get_or xs k x ≡ x → Contains (slice_range xs start end) x
read_range [] start end k x from below inside at = absurd (omega (arith, from, below, inside))
read_range (y ∷ xs) zero zero k x from below inside at = absurd (omega (arith, below))
read_range (y ∷ xs) zero (suc end) zero x from below inside at = let more : suc end - 0 ≡ suc (end - 0) =
    omega arith in rw more (0, omega arith, at)
read_range (y ∷ xs) zero (suc end) (suc k) x from below inside at =
    let more : suc end - 0 ≡ suc (end - 0) = omega arith in
    let rest = read_range xs zero end k x (omega arith) (omega (arith, below)) (omega (arith, inside)) at in
    rw more (suc rest.0, omega (arith, rest.1), rest.2)
read_range (y ∷ xs) (suc start) zero k x from below inside at = absurd (omega (arith, below))
read_range (y ∷ xs) (suc start) (suc end) zero x from below inside at = absurd (omega (arith, from))
read_range (y ∷ xs) (suc start) (suc end) (suc k) x from below inside at =
    let less : suc end - suc start ≡ end - start = omega arith in
    rw less (read_range xs start end k x (omega (arith, from)) (omega (arith, below)) (omega (arith, inside)) at)

pub alike_tuples : (tuples : List (List Value)) (place : ℕ) (ents : List EntId) (value : Value) (start end : ℕ)
    → IsByValue tuples place ents → start ≤ length ents
    → end ≤ length ents → StartsAt tuples place value ents start → EndsAt tuples place value ents end
    → AreAlike tuples place value (slice_range ents start end)
alike_tuples tuples place ents value start end is inside within starts ends at tuple is_tuple has =
    read_range ents start end there.0 own (from (cases_lt there.0 start)) (before (cases_lt there.0 end)) within there.2
  where
    own : EntId
    own = record { 0 = at }

    there : Contains ents own
    there = is.all at tuple is_tuple

    key : key_of tuples place own ≡ Some value
    key = ap (option_and_then (λ t. slice_get t place)) is_tuple ∙ has

    rank : rank_to tuples place value (get_or ents there.0 own) ≡ 1
    rank = ap (rank_to tuples place value) there.2 ∙ ap (λ k. ordering_index (option_cmp value_cmp k (Some value)))
        key ∙ ap ordering_index (value_same value)

    from : (there.0 < start) ⊎ (start ≤ there.0) → start ≤ there.0
    from (inr is) = is
    from (inl low) = let below = ltb-true _ 1 (starts.0 there.0 own (omega arith) low) in absurd (omega (arith, below, rank))

    before : (there.0 < end) ⊎ (end ≤ there.0) → there.0 < end
    before (inl is) = is
    before (inr high) = let above = leb-false _ 1 (ends.1 there.0 own high there.1) in absurd (omega (arith, above, rank))
