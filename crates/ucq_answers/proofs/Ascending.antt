-- Tuples that ascend.
use Rattle.std.proofs.Common.{◌≡◌, ◌<◌, ◌≤◌, ◌⊎◌, inl, inr, List, get_or, sym, ap, ◌∙◌, arith}
use Rattle.std.specs.Cmp.Lexicographic.{slice_cmp}
use Rattle.std.specs.List.Sorted.{IsStrictlySortedBy}
use Rattle.std.proofs.lemmas.Bool.{cases_lt}
use Rattle.std.proofs.lemmas.Map.Keys.{Less-from_sorted}
use Rattle.std.proofs.lemmas.Option.{get_or_from_slice_get, slice_get_within}
use Rattle.currency_base.specs.Lists.{OnlyOnce}
use Rattle.currency_base.specs.Values.{value_cmp}
use Rattle.currency_base.specs.declared.value.Value.{Value}
use Rattle.query_model.specs.Answers.{AreAscending, IsBelow}
use Rattle.ucq_answers.proofs.Values.{tuple_same}

pub sorted_ascend : (tuples : List (List Value)) → IsStrictlySortedBy (slice_cmp value_cmp) tuples → AreAscending tuples
sorted_ascend tuples sorted i j a b before is_a is_b =
    let inside = slice_get_within tuples j b is_b in
    let first = get_or_from_slice_get tuples i a a is_a in
    let second = get_or_from_slice_get tuples j b a is_b in
    ap (λ t. slice_cmp value_cmp t b) (sym first) ∙ ap (λ t. slice_cmp value_cmp (get_or tuples i a) t) (sym second)
    ∙ Less-from_sorted (slice_cmp value_cmp) tuples i j a sorted before inside

pub never_below : (t : List Value) → IsBelow t t → ⊥
never_below t is = let same = tuple_same t in cc

pub ascending_once : (tuples : List (List Value)) → AreAscending tuples → OnlyOnce tuples
ascending_once tuples ascend i j t first second = by (cases_lt i j) (cases_lt j i)
  where
    by : (i < j) ⊎ (j ≤ i) → (j < i) ⊎ (i ≤ j) → i ≡ j
    by (inl below) other = absurd (never_below t (ascend i j t t below first second))
    by (inr high) (inl below) = absurd (never_below t (ascend j i t t below second first))
    by (inr high) (inr low) = omega arith
