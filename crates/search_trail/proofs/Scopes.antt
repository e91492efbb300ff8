-- Scopes: where a variable stands in one, what a search for it finds, and all variables.
use Rattle.std.proofs.Common.{◌≡◌, ◌≢◌, ◌⊎◌, ◌<◌, ◌≤◌, ◌+◌, ◌∙◌, ℕ, zero, suc, true, false, List, [], ◌∷◌, ◌++◌, Some, Result, Ok, Err, Contains, get_or, is_ok, nat_lt, slice_get, slice_index_or, refl, sym, ap, subst, inl, inr, arith}
use Rattle.std.specs.List.{range_with_len}
use Rattle.std.specs.List.Sorted.{IsBinarySearchResult, IsPartitionPoint}
use Rattle.std.specs.Ordering.{nat_cmp}
use Rattle.std.proofs.lemmas.Bool.{cases_eq, cases_lt, eq-eqb, ltb-true, ne_eqb}
use Rattle.std.proofs.lemmas.List.FromFn.{get_or-range_with_len, length-range_with_len}
use Rattle.std.proofs.lemmas.List.Sorted.{searched}
use Rattle.std.proofs.lemmas.Option.{get_or_from_slice_get, slice_get-get_or, slice_get_within}
use Rattle.search_trail.specs.Trails.{Ascend, IsScope, is_in_scope, whole_scope}
use Rattle.search_trail.proofs.LevelFacts.{rising}

-- ---- members

pub contains_at : {A : Type 0} (xs : List A) (i : ℕ) (x : A) → slice_get xs i ≡ Some x → Contains xs x
contains_at xs i x at = (i, slice_get_within xs i x at, get_or_from_slice_get xs i x x at)

pub place_in : {A : Type 0} (xs : List A) (x : A) → Contains xs x → (i : ℕ) × (slice_get xs i ≡ Some x)
place_in xs x c = (c.0, slice_get-get_or xs c.0 x c.1 ∙ ap Some c.2)

pub in_scope_at : (scope : List ℕ) (i var : ℕ) → slice_get scope i ≡ Some var → is_in_scope scope var ≡ true
in_scope_at [] i var at = absurd (cc)
in_scope_at (x ∷ xs) zero var at = let same : x ≡ var = cc in rw (eq-eqb x var same) refl
in_scope_at (x ∷ xs) (suc i) var at = go (in_scope_at xs i var at) (cases_eq x var)
  where
    go : is_in_scope xs var ≡ true → (x ≡ var) ⊎ (x ≢ var) → is_in_scope (x ∷ xs) var ≡ true
    go later (inl e) = rw (eq-eqb x var e) refl
    go later (inr d) = rw (ne_eqb x var d) later

pub not_in_scope : (scope : List ℕ) (var : ℕ) → ((i : ℕ) → slice_get scope i ≡ Some var → ⊥) → is_in_scope scope var ≡ false
not_in_scope [] var none = refl
not_in_scope (x ∷ xs) var none =
    rw (ne_eqb x var (λ e. none 0 (ap Some e))) (not_in_scope xs var (λ i at. none (suc i) at))

-- what the test says of members
pub in_scope : (scope : List ℕ) (var : ℕ) → Contains scope var → is_in_scope scope var ≡ true
in_scope scope var c = let at = place_in scope var c in in_scope_at scope at.0 var at.1

pub of_scope : (scope : List ℕ) (var : ℕ) → is_in_scope scope var ≡ true → Contains scope var
of_scope [] var is = absurd (cc)
of_scope (x ∷ xs) var is = go (λ h. of_scope xs var h) (cases_eq x var)
  where
    go : (is_in_scope xs var ≡ true → Contains xs var) → (x ≡ var) ⊎ (x ≢ var) → Contains (x ∷ xs) var
    go more (inl e) = contains_at (x ∷ xs) 0 var (ap Some e)
    go more (inr d) =
        let later = place_in xs var (more (rw (ne_eqb x var d) at is)) in
        contains_at (x ∷ xs) (suc later.0) var later.1

-- ---- searches

pub answered : (scope : List ℕ) (var : ℕ) (r : Result ℕ ℕ) → Ascend scope → IsBinarySearchResult (λ y. nat_cmp y var) scope r
    → is_ok r ≡ is_in_scope scope var
answered scope var (Ok i) ascend found =
    let at = searched scope var (Ok i) found (λ i j le within. rising scope ascend i j 0 le within) in
    sym (in_scope_at scope i var (slice_get-get_or scope i 0 at.0 ∙ ap Some at.1))
answered scope var (Err i) ascend found = sym (not_in_scope scope var (λ k at. no k at (cases_lt k i)))
  where
    no : (k : ℕ) → slice_get scope k ≡ Some var → (k < i) ⊎ (i ≤ k) → ⊥
    no k at (inl low) =
        let apart = searched scope var (Err i) found (λ i j le within. rising scope ascend i j 0 le within) in
        let there : get_or scope k 0 ≡ var = get_or_from_slice_get scope k var 0 at in
        absurd (omega (arith, apart.1 k low, there))
    no k at (inr high) =
        let apart = searched scope var (Err i) found (λ i j le within. rising scope ascend i j 0 le within) in
        let there : get_or scope k 0 ≡ var = get_or_from_slice_get scope k var 0 at in
        absurd (omega (arith, apart.2 k high (slice_get_within scope k var at), there))

-- up to a point at which a test of being below ends, all are below
pub before_point : (scope : List ℕ) (var n : ℕ) → IsPartitionPoint (λ y. nat_lt y var ≡ true) (λ y. nat_lt y var ≡ false) scope n
    → (i low : ℕ) → i < n → slice_get scope i ≡ Some low → low < var
before_point scope var n point i low before at =
    let there : slice_index_or scope i low ≡ low = get_or_from_slice_get scope i low low at in
    let less : nat_lt low var ≡ true = subst (λ (k : ℕ). nat_lt k var ≡ true) there
    (point.0 i low (omega arith) before) in
    ltb-true low var less

-- ---- all variables

pub range_push : (first count : ℕ) → range_with_len first (count + 1) ≡ range_with_len first count ++ (first + count) ∷ []
range_push first zero =
    let same : first ≡ first + 0 = omega arith in
    ap (λ (n : ℕ). n ∷ []) same
range_push first (suc count) =
    let next : suc count + 1 ≡ suc (count + 1) = omega arith in
    let last : first + 1 + count ≡ first + suc count = omega arith in
    rw next (ap (λ (ns : List ℕ). first ∷ ns) (range_push (first + 1) count
    ∙ ap (λ (n : ℕ). range_with_len (first + 1) count ++ n ∷ []) last))

pub whole_push : (vars : ℕ) → whole_scope (vars + 1) ≡ whole_scope vars ++ vars ∷ []
whole_push vars =
    let last : 0 + vars ≡ vars = omega arith in
    range_push 0 vars ∙ ap (λ (n : ℕ). whole_scope vars ++ n ∷ []) last

pub whole_at : (vars i var : ℕ) → slice_get (whole_scope vars) i ≡ Some var → (i < vars) × (var ≡ i)
whole_at vars i var at =
    let within : i < vars = omega (arith, slice_get_within (whole_scope vars) i var at, length-range_with_len 0 vars) in
    let read = get_or-range_with_len 0 vars i var within in
    let there : get_or (whole_scope vars) i var ≡ var = get_or_from_slice_get (whole_scope vars) i var var at in
    (within, omega (arith, read, there))

-- each variable is of it
pub whole_has : (vars var : ℕ) → var < vars → Contains (whole_scope vars) var
whole_has vars var within =
    (var, omega (arith, within, length-range_with_len 0 vars), omega (arith, get_or-range_with_len 0 vars var var within))

pub whole_is_scope : (vars : ℕ) → IsScope vars (whole_scope vars)
whole_is_scope vars = record {
  ascend = λ i j low high less a b.
      let at = (whole_at vars i low a).1 in
      let at' = (whole_at vars j high b).1 in
      omega (arith, less, at, at');
  within = λ i var at. let here = whole_at vars i var at in omega (arith, here.0, here.1);
}
