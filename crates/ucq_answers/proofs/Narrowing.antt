-- Tuples whose values comparisons allow, among tuples that stand by their values.
use Rattle.std.proofs.Common.{◌≡◌, ◌+◌, ◌-◌, ◌<◌, ◌≤◌, ◌⊎◌, inl, inr, ℕ, zero, suc, Bool, true, false, ◌&&◌, List, [], ◌∷◌, length, get_or, take, drop, slice_range, Option, None, Some, option_and_then, unwrap_or, slice_get, refl, sym, ap, subst, ◌∙◌, arith}
use Rattle.std.specs.List.{Contains}
use Rattle.std.specs.List.Sorted.{IsSortedBy}
use Rattle.std.specs.Option.{option_cmp}
use Rattle.std.specs.Ordering.{ordering_index, ordering_reverse}
use Rattle.std.specs.declared.cmp.Ordering.{Ordering}
use Rattle.std.specs.declared.cmp.Ordering.TheVariants.{Less, Equal, Greater}
use Rattle.std.proofs.lemmas.Bool.{cases_lt, false≢true, leb-false, leb-true, ltb-false, ltb-true}
use Rattle.std.proofs.lemmas.List.{get_or-drop, get_or-take, length-drop, length-take-le}
use Rattle.std.proofs.lemmas.Option.{none-some, slice_get_within}
use Rattle.currency_base.specs.Values.{holds_at, value_cmp, value_test}
use Rattle.currency_base.specs.declared.ids.EntId.{EntId}
use Rattle.currency_base.specs.declared.value.Cmp.{Cmp}
use Rattle.currency_base.specs.declared.value.Cmp.TheVariants.{Eq, Ge, Gt, Le, Lt, Ne}
use Rattle.currency_base.specs.declared.value.Value.{Value}
use Rattle.query_model.specs.declared.query.Term.{Term}
use Rattle.query_model.specs.declared.query.Term.TheVariants as term
use Rattle.query_model.specs.declared.query.Test.{Test}
use Rattle.query_model.specs.declared.query.TestTerm.{TestTerm}
use Rattle.query_model.specs.declared.query.TestTerm.TheVariants as test
use Rattle.ucq_answers.specs.Lookups.{AreCandidates, EndsAt, GoOn, IsBound, IsByValue, IsNarrowed, IsReach, KeepsAmong, KeepsBound, StartsAt, is_lower, key_of, rank_to, turned}
use Rattle.ucq_answers.specs.Partly.{may_hold, passes, side_of, value_at}
use Rattle.ucq_answers.specs.TupleOrder.{value_antisymm}
use Rattle.ucq_answers.proofs.Alike.{read_range}
use Rattle.ucq_answers.proofs.GoingOn.{all_fitted, get_none}
use Rattle.ucq_answers.proofs.Spreading.{value_on}

-- ---- parts of sorted lists

sorted_take : {A : Type 0} (lt : A → A → Bool) (xs : List A) (n : ℕ) → n ≤ length xs → IsSortedBy lt xs → IsSortedBy lt (take n xs)
sorted_take lt xs n within sorted = λ k d low below.
    let many : length (take n xs) ≡ n = length-take-le n xs within in
    let inside : k + 1 < n = omega (arith, many, below) in
    let one : get_or (take n xs) (k + 1) d ≡ get_or xs (k + 1) d = get_or-take n xs (k + 1) d inside in
    let other : get_or (take n xs) k d ≡ get_or xs k d = get_or-take n xs k d (omega (arith, inside)) in
    ap (λ u. lt u (get_or (take n xs) k d)) one ∙ ap (λ u. lt (get_or xs (k + 1) d) u) other
    ∙ sorted k d low (omega (arith, inside, within))

sorted_drop : {A : Type 0} (lt : A → A → Bool) (xs : List A) (n : ℕ) → IsSortedBy lt xs → IsSortedBy lt (drop n xs)
sorted_drop lt xs n sorted = λ k d low below.
    let many : length (drop n xs) ≡ length xs - n = length-drop n xs in
    let next : n + (k + 1) ≡ n + k + 1 = omega arith in
    let one : get_or (drop n xs) (k + 1) d ≡ get_or xs (n + k + 1) d = get_or-drop n xs (k + 1) d ∙ ap (λ i. get_or xs i d) next in
    let other : get_or (drop n xs) k d ≡ get_or xs (n + k) d = get_or-drop n xs k d in
    ap (λ u. lt u (get_or (drop n xs) k d)) one ∙ ap (λ u. lt (get_or xs (n + k + 1) d) u) other
    ∙ sorted (n + k) d (omega arith) (omega (arith, many, below))

pub sorted_range : {A : Type 0} (lt : A → A → Bool) (xs : List A) (start end : ℕ) → start ≤ end → end ≤ length xs
    → IsSortedBy lt xs → IsSortedBy lt (slice_range xs start end)
sorted_range lt xs start end order within sorted =
    let many : length (drop start xs) ≡ length xs - start = length-drop start xs in
    sorted_take lt (drop start xs) (end - start) (omega (arith, many, order, within)) (sorted_drop lt xs start sorted)

-- ---- where values stand to another

rank_is : (tuples : List (List Value)) (place : ℕ) (value x : Value) (ent : EntId) → key_of tuples place ent ≡ Some x
    → rank_to tuples place value ent ≡ ordering_index (value_cmp x value)
rank_is tuples place value x ent key = ap (λ k. ordering_index (option_cmp value_cmp k (Some value))) key

below_rank : (o : Ordering) → holds_at Lt o ≡ true → ordering_index o < 1
below_rank Less holds = omega arith
below_rank Equal holds = absurd (false≢true holds)
below_rank Greater holds = absurd (false≢true holds)

up_to_rank : (o : Ordering) → holds_at Le o ≡ true → ordering_index o ≤ 1
up_to_rank Less holds = omega arith
up_to_rank Equal holds = omega arith
up_to_rank Greater holds = absurd (false≢true holds)

above_rank : (o : Ordering) → holds_at Gt o ≡ true → 1 < ordering_index o
above_rank Less holds = absurd (false≢true holds)
above_rank Equal holds = absurd (false≢true holds)
above_rank Greater holds = omega arith

from_rank : (o : Ordering) → holds_at Ge o ≡ true → 1 ≤ ordering_index o
from_rank Less holds = absurd (false≢true holds)
from_rank Equal holds = omega arith
from_rank Greater holds = omega arith

pub reach_below : (tuples : List (List Value)) (place : ℕ) (value : Value) (ents : List EntId) (start : ℕ)
    → StartsAt tuples place value ents start → IsReach tuples place Lt value ents 0 start
reach_below tuples place value ents start starts k d x below key holds =
    (omega arith, by (cases_lt k start))
  where
    ent : EntId
    ent = get_or ents k d

    by : (k < start) ⊎ (start ≤ k) → k < start
    by (inl is) = is
    by (inr past) =
        let high = ltb-false _ 1 (starts.1 k d past below) in
        let low = below_rank (value_cmp x value) holds in
        let same = rank_is tuples place value x ent key in
        absurd (omega (arith, high, low, same))

pub reach_from : (tuples : List (List Value)) (place : ℕ) (value : Value) (ents : List EntId) (start : ℕ)
    → StartsAt tuples place value ents start → IsReach tuples place Ge value ents start (length ents)
reach_from tuples place value ents start starts k d x below key holds = (by (cases_lt k start), below)
  where
    ent : EntId
    ent = get_or ents k d

    by : (k < start) ⊎ (start ≤ k) → start ≤ k
    by (inr is) = is
    by (inl before) =
        let low = ltb-true _ 1 (starts.0 k d (omega arith) before) in
        let high = from_rank (value_cmp x value) holds in
        let same = rank_is tuples place value x ent key in
        absurd (omega (arith, high, low, same))

pub reach_up_to : (tuples : List (List Value)) (place : ℕ) (value : Value) (ents : List EntId) (end : ℕ)
    → EndsAt tuples place value ents end → IsReach tuples place Le value ents 0 end
reach_up_to tuples place value ents end ends k d x below key holds =
    (omega arith, by (cases_lt k end))
  where
    ent : EntId
    ent = get_or ents k d

    by : (k < end) ⊎ (end ≤ k) → k < end
    by (inl is) = is
    by (inr past) =
        let high = leb-false _ 1 (ends.1 k d past below) in
        let low = up_to_rank (value_cmp x value) holds in
        let same = rank_is tuples place value x ent key in
        absurd (omega (arith, high, low, same))

pub reach_above : (tuples : List (List Value)) (place : ℕ) (value : Value) (ents : List EntId) (end : ℕ)
    → EndsAt tuples place value ents end → IsReach tuples place Gt value ents end (length ents)
reach_above tuples place value ents end ends k d x below key holds = (by (cases_lt k end), below)
  where
    ent : EntId
    ent = get_or ents k d

    by : (k < end) ⊎ (end ≤ k) → end ≤ k
    by (inr is) = is
    by (inl before) =
        let low = leb-true _ 1 (ends.0 k d (omega arith) before) in
        let high = above_rank (value_cmp x value) holds in
        let same = rank_is tuples place value x ent key in
        absurd (omega (arith, high, low, same))

-- what stands in the reach is kept
pub among_kept : (tuples : List (List Value)) (place : ℕ) (cmp : Cmp) (value : Value) (ents : List EntId) (start end : ℕ)
    → end ≤ length ents → IsReach tuples place cmp value ents start end
    → KeepsAmong tuples place cmp value ents (slice_range ents start end)
among_kept tuples place cmp value ents start end within reach ent x is key holds =
    let key_at : key_of tuples place (get_or ents is.0 ent) ≡ Some x = ap (key_of tuples place) is.2 ∙ key in
    let stands = reach is.0 ent x is.1 key_at holds in
    read_range ents start end is.0 ent stands.0 stands.1 within is.2

-- ---- bounds

turned_holds : (cmp : Cmp) (o : Ordering) → holds_at (turned cmp) (ordering_reverse o) ≡ holds_at cmp o
turned_holds Eq Less = refl
turned_holds Eq Equal = refl
turned_holds Eq Greater = refl
turned_holds Ne Less = refl
turned_holds Ne Equal = refl
turned_holds Ne Greater = refl
turned_holds Lt Less = refl
turned_holds Lt Equal = refl
turned_holds Lt Greater = refl
turned_holds Le Less = refl
turned_holds Le Equal = refl
turned_holds Le Greater = refl
turned_holds Gt Less = refl
turned_holds Gt Equal = refl
turned_holds Gt Greater = refl
turned_holds Ge Less = refl
turned_holds Ge Equal = refl
turned_holds Ge Greater = refl

turned_test : (cmp : Cmp) (x y : Value) → value_test cmp y x ≡ true → value_test (turned cmp) x y ≡ true
turned_test cmp x y holds = ap (holds_at (turned cmp)) (value_antisymm x y) ∙ turned_holds cmp (value_cmp y x) ∙ holds

side_goes : (b c : List (Option Value)) (s : TestTerm) (x : Value) → GoOn b c → side_of b s ≡ Some x → side_of c s ≡ Some x
side_goes b c (test.Var v) x on is = on v x is
side_goes b c (test.Constant k) x on is = is

pub left_bound : (t : Test) (var : ℕ) (b : List (Option Value)) (y : Value) → t.left ≡ test.Var var → side_of b t.right ≡ Some y
    → IsBound t var b t.cmp y
left_bound t var b y is_var known c x on has holds =
    let left : side_of c t.left ≡ Some x = ap (side_of c) is_var ∙ has in
    let right : side_of c t.right ≡ Some y = side_goes b c t.right y on known in
    sym (ap (λ o. may_hold o t.cmp (side_of c t.right)) left ∙ ap (λ o. may_hold (Some x) t.cmp o) right) ∙ holds

pub right_bound : (t : Test) (var : ℕ) (b : List (Option Value)) (y : Value) → t.right ≡ test.Var var → side_of b t.left ≡ Some y
    → IsBound t var b (turned t.cmp) y
right_bound t var b y is_var known c x on has holds =
    let right : side_of c t.right ≡ Some x = ap (side_of c) is_var ∙ has in
    let left : side_of c t.left ≡ Some y = side_goes b c t.left y on known in
    turned_test t.cmp x y
    (sym (ap (λ o. may_hold o t.cmp (side_of c t.right)) left ∙ ap (λ o. may_hold (Some y) t.cmp o) right) ∙ holds)

pub bound_kept : (tuples : List (List Value)) (place : ℕ) (t : Test) (var : ℕ) (b : List (Option Value)) (cmp : Cmp) (y : Value)
    (ents kept : List EntId) → IsBound t var b cmp y → KeepsAmong tuples place cmp y ents kept
    → KeepsBound tuples place t var b ents kept
bound_kept tuples place t var b cmp y ents kept bound keeps ent x c is key on has holds =
    keeps ent x is key (bound c x on has holds)

-- ---- one comparison after another

pub all_narrowed : (tuples : List (List Value)) (place : ℕ) (tests : List Test) (var : ℕ) (b : List (Option Value)) (ents : List EntId)
    → IsByValue tuples place ents → IsNarrowed tuples place tests var b ents
all_narrowed tuples place tests var b ents is =
    record { sorted = is.sorted; all = λ ent x c key on has passed. there ent x key }
  where
    there : (ent : EntId) (x : Value) → key_of tuples place ent ≡ Some x → Contains ents ent
    there ent x key = by (slice_get tuples ent.0) refl key
      where
        by : (o : Option (List Value)) → slice_get tuples ent.0 ≡ o → option_and_then (λ tuple. slice_get tuple place) o ≡ Some x
            → Contains ents ent
        by None at has = absurd (none-some x has)
        by (Some tuple) at has = is.all ent.0 tuple at

both_true : (a b : Bool) → a && b ≡ true → (a ≡ true) × (b ≡ true)
both_true true b is = (refl, is)
both_true false b is = absurd (false≢true is)

passes_at : (c : List (Option Value)) (tests : List Test) (i : ℕ) (t : Test) → i < length tests → t ≡ get_or tests i t
    → passes c tests ≡ true → may_hold (side_of c t.left) t.cmp (side_of c t.right) ≡ true
passes_at c [] i t below is passed = absurd (omega (arith, below))
passes_at c (u ∷ tests) zero t below is passed =
    subst (λ v. may_hold (side_of c v.left) v.cmp (side_of c v.right) ≡ true) (sym is)
    (both_true (may_hold (side_of c u.left) u.cmp (side_of c u.right)) (passes c tests) passed).0
passes_at c (u ∷ tests) (suc i) t below is passed =
    passes_at c tests i t (omega (arith, below)) is
    (both_true (may_hold (side_of c u.left) u.cmp (side_of c u.right)) (passes c tests) passed).1

pub more_narrowed : (tuples : List (List Value)) (place : ℕ) (tests : List Test) (i : ℕ) (t : Test) (var : ℕ) (b : List (Option Value))
    (ents kept : List EntId) → i < length tests → t ≡ get_or tests i t → IsSortedBy (is_lower tuples place) kept
    → KeepsBound tuples place t var b ents kept → IsNarrowed tuples place tests var b ents
    → IsNarrowed tuples place tests var b kept
more_narrowed tuples place tests i t var b ents kept below is sorted keeps narrowed =
    record {
      sorted = sorted;
      all = λ ent x c key on has passed. keeps ent x c (narrowed.all ent x c key on has passed) key on has
          (passes_at c tests i t below is passed);
    }

pub narrowed_are : (tuples : List (List Value)) (place : ℕ) (tests : List Test) (terms : List Term) (var : ℕ)
    (b : List (Option Value)) (ents : List EntId) → slice_get terms place ≡ Some (term.Var var)
    → IsNarrowed tuples place tests var b ents → AreCandidates tuples tests terms b ents
narrowed_are tuples place tests terms var b ents stands narrowed at tuple c is_tuple fits passed = by (slice_get tuple place) refl
  where
    ent : EntId
    ent = record { 0 = at }

    by : (o : Option Value) → slice_get tuple place ≡ o → Contains ents ent
    by None none =
        let own = all_fitted b terms tuple c fits in
        let inside = slice_get_within terms place (term.Var var) stands in
        let same = own.fitted.as_many in
        let below : place < length tuple = omega arith in
        absurd (get_none tuple place below none)
    by (Some x) has =
        let own = all_fitted b terms tuple c fits in
        let fitted : slice_get c var ≡ Some (Some x) = own.fitted.each place (term.Var var) x stands has in
        let key : key_of tuples place ent ≡ Some x = ap (option_and_then (λ t. slice_get t place)) is_tuple ∙ has in
        narrowed.all ent x c key (λ v y known. value_on b c v y own.extends known) (known_at c var x fitted) passed
      where
        known_at : (d : List (Option Value)) (v : ℕ) (y : Value) → slice_get d v ≡ Some (Some y) → value_at d v ≡ Some y
        known_at d v y is = ap (λ o. unwrap_or o None) is
