-- The tuples that are not gone are the answers that the listed completions have in common.
use Rattle.std.proofs.Common.{◌≡◌, ◌<◌, ℕ, zero, suc, Bool, true, false, not, List, [], ◌∷◌, Some, length, map, slice_get, slice_index_or, get_or, refl, ap, subst, ◌∙◌, arith}
use Rattle.std.specs.List.{All, AllPairs, Contains, filter, range_with_len}
use Rattle.std.specs.Option.{option_map}
use Rattle.std.proofs.lemmas.Bool.{false≢true}
use Rattle.std.proofs.lemmas.List.Elements.{All-filter, All-map, filter_passes}
use Rattle.std.proofs.lemmas.List.FromFn.{get_or-range_with_len, length-range_with_len}
use Rattle.std.proofs.lemmas.List.Kept.{AllPairs-filter}
use Rattle.std.proofs.lemmas.Option.{get_or_from_slice_get, none-some, same_Some, slice_get-get_or, slice_get-map, slice_get_within}
use Rattle.currency_base.specs.declared.value.Value.{Value}
use Rattle.query_model.specs.Answers.{AreAscending}
use Rattle.query_model.specs.declared.query.Query.{Query}
use Rattle.spec_model.specs.Completion.{Rankings}
use Rattle.spec_model.specs.Spec.{Spec}
use Rattle.spec_model.specs.declared.relation.Relation.{Relation}
use Rattle.answer_candidates.specs.Candidates.{Standing, AreCandidates, AreLeft, IsCommon, IsMarked, is_left, left_of, left_tuples}

-- ---- lists

-- what passes a test is kept
kept_in : {A : Type 0} (p : A → Bool) (xs : List A) (k : ℕ) (x : A) → slice_get xs k ≡ Some x → p x ≡ true
    → (j : ℕ) × (slice_get (filter p xs) j ≡ Some x)
kept_in p [] k x at passes = absurd (none-some x at)
kept_in p (y ∷ ys) zero x at passes =
    let same : y ≡ x = same_Some y x at in
    let test : p y ≡ true = ap p same ∙ passes in
    (zero, rw test (ap (λ z. Some z) same))
kept_in {A} p (y ∷ ys) (suc k) x at passes = by (p y) refl (kept_in p ys k x at passes)
  where
    by : (b : Bool) → p y ≡ b → (j : ℕ) × (slice_get (filter p ys) j ≡ Some x) →
        (j : ℕ) × (slice_get (filter p (y ∷ ys)) j ≡ Some x)
    by true test r = (suc r.0, rw test r.1)
    by false test r = (r.0, rw test r.1)

-- what stands in a list of values of a function is one of an item
of_map : {A B : Type 0} (f : A → B) (xs : List A) (i : ℕ) (y : B) → slice_get (map f xs) i ≡ Some y →
    (x : A) × (slice_get xs i ≡ Some x) × (f x ≡ y)
of_map f [] i y at = absurd (none-some y at)
of_map f (x ∷ xs) zero y at = (x, refl, same_Some (f x) y at)
of_map f (x ∷ xs) (suc i) y at = of_map f xs i y at

is_in : {A : Type 0} (xs : List A) (i : ℕ) (x : A) → slice_get xs i ≡ Some x → Contains xs x
is_in xs i x at = (i, slice_get_within xs i x at, get_or_from_slice_get xs i x x at)

all_at : {A : Type 0} (P : A → Type 0) (xs : List A) (i : ℕ) (x : A) → All P xs → slice_get xs i ≡ Some x → P x
all_at P xs i x all at = subst P (get_or_from_slice_get xs i x x at) (all i x (slice_get_within xs i x at))

range_below : (n : ℕ) → All (λ x. x < n) (range_with_len 0 n)
range_below n i d below =
    let here : i < n = omega (arith, below, length-range_with_len 0 n) in
    omega (arith, here, get_or-range_with_len 0 n i d here)

range_ascends : (n : ℕ) → AllPairs (λ x y. x < y) (range_with_len 0 n)
range_ascends n i j d order below =
    let second : j < n = omega (arith, below, length-range_with_len 0 n) in
    let first : i < n = omega (arith, order, second) in
    omega (arith, order, get_or-range_with_len 0 n i d first, get_or-range_with_len 0 n j d second)

range_at : (n i : ℕ) → i < n → slice_get (range_with_len 0 n) i ≡ Some i
range_at n i below =
    let count : i < length (range_with_len 0 n) = omega (arith, below, length-range_with_len 0 n) in
    let is : get_or (range_with_len 0 n) i 0 ≡ i = omega (arith, get_or-range_with_len 0 n i 0 below) in
    slice_get-get_or (range_with_len 0 n) i 0 count ∙ ap (λ x. Some x) is

-- ---- places

not_true : (b : Bool) → not b ≡ true → b ≡ false
not_true true is = absurd (false≢true is)
not_true false is = refl

-- a place that is not gone
abbrev IsLeftAt : List Bool → ℕ → Type 0
IsLeftAt gone place = (place < length gone) × (slice_get gone place ≡ Some false)

left_places : (gone : List Bool) → All (IsLeftAt gone) (left_of gone)
left_places gone i d below =
    let range = range_with_len 0 (length gone) in
    let inside = All-filter (is_left gone) (λ x. x < length gone) range (range_below (length gone)) i d below in
    let stays = not_true _ (filter_passes (is_left gone) range i d below) in
    (inside, slice_get-get_or gone _ true inside ∙ ap (λ b. Some b) stays)

-- the place of a tuple that is not gone is left
left_there : (gone : List Bool) (place : ℕ) → slice_get gone place ≡ Some false →
    (j : ℕ) × (slice_get (left_of gone) j ≡ Some place)
left_there gone place at =
    let passes : is_left gone place ≡ true = ap not (get_or_from_slice_get gone place false true at) in
    kept_in (is_left gone) (range_with_len 0 (length gone)) place place
    (range_at (length gone) place (slice_get_within gone place false at)) passes

-- ---- the law

not_gone : (relations : List Relation) (query : Query) (completions : List Rankings) (tuple : List Value) (mark : Bool)
    → IsCommon relations query completions tuple → IsMarked relations query completions tuple mark → mark ≡ false
not_gone relations query completions tuple true common gone = absurd (gone common)
not_gone relations query completions tuple false common is = refl

pub left_common : (s : Spec) (query : Query) (c : Standing) → AreCandidates s query c → AreLeft s.relations query c
left_common s query c are = record { each = each; all = all; ascending = ascending }
  where
    tuple : ℕ → List Value
    tuple place = slice_index_or c.tuples place []

    tuple_at : (place : ℕ) → IsLeftAt c.gone place → slice_get c.tuples place ≡ Some (tuple place)
    tuple_at place left = slice_get-get_or c.tuples place [] (omega (arith, left.0, are.per_tuple))

    each : All (IsCommon s.relations query c.completions) (left_tuples c)
    each = All-map (IsCommon s.relations query c.completions) tuple (left_of c.gone)
        (λ i d below. let left = left_places c.gone i d below in are.marked _ _ false (tuple_at _ left) left.1)

    all : (t : List Value) → IsCommon s.relations query c.completions t → Contains (left_tuples c) t
    all t common =
        let there = are.all t common in
        let at : slice_get c.tuples there.0 ≡ Some t = slice_get-get_or c.tuples there.0 t there.1 ∙ ap (λ x. Some x) there.2 in
        let marked = slice_get-get_or c.gone there.0 true (omega (arith, there.1, are.per_tuple)) in
        let mark = not_gone s.relations query c.completions t _ common (are.marked there.0 t _ at marked) in
        let left = left_there c.gone there.0 (marked ∙ ap (λ b. Some b) mark) in
        is_in (left_tuples c) left.0 t
        (slice_get-map tuple (left_of c.gone) left.0 ∙ ap (option_map tuple) left.1 ∙ ap (λ x. Some x)
        (get_or_from_slice_get c.tuples there.0 t [] at))

    ascending : AreAscending (left_tuples c)
    ascending i j a b order first second =
        let p = of_map tuple (left_of c.gone) i a first in
        let q = of_map tuple (left_of c.gone) j b second in
        let pairs = AllPairs-filter (λ x y. x < y) (is_left c.gone) (range_with_len 0 (length c.gone))
        (range_ascends (length c.gone)) i j 0 order
        (slice_get_within (left_of c.gone) j q.0 q.1) in
        let less : p.0 < q.0 = omega (
          arith,
          pairs,
          get_or_from_slice_get (left_of c.gone) i p.0 0 p.1,
          get_or_from_slice_get (left_of c.gone) j q.0 0 q.1,
        ) in
        let places = left_places c.gone in
        are.ascending p.0 q.0 a b less (tuple_at p.0 (all_at (IsLeftAt c.gone) (left_of c.gone) i p.0 places p.1)
        ∙ ap (λ x. Some x) p.2)
        (tuple_at q.0 (all_at (IsLeftAt c.gone) (left_of c.gone) j q.0 places q.1) ∙ ap (λ x. Some x) q.2)
