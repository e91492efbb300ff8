-- Marks: the values of variables and the first of the scope that has none, when values are given and taken back.
use Rattle.std.proofs.Common.{◌≡◌, ◌≢◌, ◌⊎◌, ◌<◌, ◌≤◌, ◌+◌, ◌^◌, ◌∙◌, min, ℕ, zero, suc, Bool, List, [], ◌∷◌, Option, Some, None, All, length, replicate, slice_get, slice_index_or, slice_set, drop, take, refl, sym, ap, subst, inl, inr, arith}
use Rattle.std.proofs.lemmas.Bool.{cases_eq, cases_lt}
use Rattle.std.proofs.lemmas.List.{get_or-replicate, length-replicate, length-set, take_all}
use Rattle.std.proofs.lemmas.List.Elements.{All-cons, All-head, All-nil, All-tail}
use Rattle.std.proofs.lemmas.Option.{slice_get-get_or, slice_get_within}
use Rattle.currency_base.specs.Literals.{var_of}
use Rattle.currency_base.specs.declared.lit.Lit.{Lit}
use Rattle.search_trail.specs.Trails.{HasNoFree, IsFirstFree, IsFreeInScope, IsScope, whole_scope}
use Rattle.search_trail.specs.Kept.{AreGiven, freed}
use Rattle.search_trail.proofs.Scopes.{contains_at, place_in, whole_at, whole_is_scope}
use Rattle.search_trail.proofs.ValueLists.{freed_length}

-- the item at a place that is written, and at another
pub get_same : {A : Type 0} (xs : List A) (i : ℕ) (y : A) → i < length xs → slice_get (slice_set xs i y) i ≡ Some y
get_same [] i y h = absurd (omega (arith, h))
get_same (x ∷ xs) zero y h = refl
get_same (x ∷ xs) (suc i) y h = get_same xs i y (omega (arith, h))

pub get_other : {A : Type 0} (xs : List A) (i j : ℕ) (y : A) → j ≢ i → slice_get (slice_set xs i y) j ≡ slice_get xs j
get_other [] i j y d = refl
get_other (x ∷ xs) zero zero y d = absurd (d refl)
get_other (x ∷ xs) zero (suc j) y d = refl
get_other (x ∷ xs) (suc i) zero y d = refl
get_other (x ∷ xs) (suc i) (suc j) y d = get_other xs i j y (λ e. d (ap suc e))

-- a number is at most the variable of each literal: of those up to a place and the next one, and of all
pub least_more : (lits : List Lit) (i least least' var : ℕ) (d : Lit) → i < length lits
    → All (λ lit. least ≤ var_of lit) (take i lits)
    → least' ≡ min least var → var ≡ var_of (slice_index_or lits i d) → All (λ lit. least' ≤ var_of lit) (take (i + 1) lits)
least_more [] i least least' var d h all is at = absurd (omega (arith, h))
least_more (x ∷ xs) zero least least' var d h all is at =
    All-cons (λ lit. least' ≤ var_of lit) x [] (omega (arith, is, at)) (All-nil (λ lit. least' ≤ var_of lit))
least_more (x ∷ xs) (suc i) least least' var d h all is at =
    let next : suc i + 1 ≡ suc (i + 1) = omega arith in
    let here : least ≤ var_of x = All-head (λ lit. least ≤ var_of lit) x (take i xs) all in
    rw next (All-cons (λ lit. least' ≤ var_of lit) x (take (i + 1) xs) (omega (arith, is, here))
    (least_more xs i least least' var d (omega (arith, h)) (All-tail (λ lit. least ≤ var_of lit) x (take i xs) all) is at))

pub least_all : (lits : List Lit) (i least : ℕ) → length lits ≤ i → All (λ lit. least ≤ var_of lit) (take i lits)
    → All (λ lit. least ≤ var_of lit) lits
least_all lits i least h all = subst (All (λ lit. least ≤ var_of lit)) (take_all i lits h) all

-- the next literal's variable is freed
pub freed_more : (given : List (Option Bool)) (lits : List Lit) (i var : ℕ) (d : Lit) → i < length lits
    → var ≡ var_of (slice_index_or lits i d) → freed (slice_set given var None) (drop (i + 1) lits) ≡ freed given (drop i lits)
freed_more given [] i var d h at = absurd (omega (arith, h))
freed_more given (x ∷ xs) zero var d h at = ap (λ (v : ℕ). freed (slice_set given v None) xs) at
freed_more given (x ∷ xs) (suc i) var d h at =
    let next : suc i + 1 ≡ suc (i + 1) = omega arith in
    rw next (freed_more given xs i var d (omega (arith, h)) at)

-- no variable has a value
pub given_new : (vars : ℕ) → vars ≤ 2 ^ 31 → AreGiven (replicate vars None) (whole_scope vars) 0
given_new vars few =
    let long : length (replicate {A = Option Bool} vars None) ≡ vars = length-replicate vars None in
    record {
      few = omega (arith, few, long);
      is_scope = subst (λ (n : ℕ). IsScope n (whole_scope vars)) (sym long) (whole_is_scope vars);
      low_within = omega arith;
      free = λ var at.
          let here = whole_at vars 0 var at in
          slice_get-get_or (replicate vars None) var None (omega (arith, here.0, here.1, long))
          ∙ ap Some (get_or-replicate vars var None None (omega (arith, here.0, here.1)));
      below = λ i var before at free. absurd (omega (arith, before));
    }

-- a mark that is found from a place on, before which all have values
pub given_from : (given : List (Option Bool)) (scope : List ℕ) (start low : ℕ) → length given ≤ 2147483648
    → IsScope (length given) scope
    → ((i var : ℕ) → i < start → slice_get scope i ≡ Some var → slice_get given var ≡ Some None → ⊥)
    → low ≤ length scope
    → ((var : ℕ) → slice_get scope low ≡ Some var → slice_get given var ≡ Some None)
    → ((i var : ℕ) → start ≤ i → i < low → slice_get scope i ≡ Some var → slice_get given var ≡ Some None → ⊥)
    → AreGiven given scope low
given_from given scope start low few is_scope before within free passed = record {
  few = few;
  is_scope = is_scope;
  low_within = within;
  free = free;
  below = λ i var h at none. go i var h at none (cases_lt i start);
}
  where
    go : (i var : ℕ) → i < low → slice_get scope i ≡ Some var → slice_get given var ≡ Some None → (i < start) ⊎ (start ≤ i) → ⊥
    go i var h at none (inl early) = before i var early at none
    go i var h at none (inr late) = passed i var late h at none

module _ (given : List (Option Bool)) (scope : List ℕ) (low : ℕ) (are : AreGiven given scope low) where
  -- the variable at the mark is the first with no value
  pub first_at : (var : ℕ) → slice_get scope low ≡ Some var → IsFirstFree (record { given = given; scope = scope }) var
  first_at var at = record {
    is_free = record { is_in = contains_at scope low var at; free = are.free var at };
    earlier = earlier;
  }
    where
      earlier : (other : ℕ) → other < var → IsFreeInScope (record { given = given; scope = scope }) other → ⊥
      earlier other less is = go (cases_lt there.0 low) (cases_eq there.0 low)
        where
          there : (i : ℕ) × (slice_get scope i ≡ Some other)
          there = place_in scope other is.is_in

          go : (there.0 < low) ⊎ (low ≤ there.0) → (there.0 ≡ low) ⊎ (there.0 ≢ low) → ⊥
          go (inl before) e = are.below there.0 other before there.1 is.free
          go (inr after) (inl e) =
              let here : slice_get scope low ≡ Some other = ap (slice_get scope) (sym e) ∙ there.1 in
              let same : var ≡ other = cc in
              absurd (omega (arith, same, less))
          go (inr after) (inr d) =
              let more = are.is_scope.ascend low there.0 var other (omega (arith, after, d)) at there.1 in
              absurd (omega (arith, more, less))

  -- and where the mark is at the end there is none
  pub none_at : length scope ≤ low → HasNoFree (record { given = given; scope = scope })
  none_at end var is =
      let there = place_in scope var is.is_in in
      let within = slice_get_within scope there.0 var there.1 in
      are.below there.0 var (omega (arith, within, end)) there.1 is.free

  -- before the mark all have values still where one is given
  pub before_given : (var : ℕ) (value : Bool) → (i other : ℕ) → i < low → slice_get scope i ≡ Some other
      → slice_get (slice_set given var (Some value)) other ≡ Some None → ⊥
  before_given var value i other before at none = go (cases_eq other var)
    where
      go : (other ≡ var) ⊎ (other ≢ var) → ⊥
      go (inl e) =
          let within : other < length given = are.is_scope.within i other at in
          let there : slice_get (slice_set given var (Some value)) other ≡ Some (Some value) =
          ap (slice_get (slice_set given var (Some value))) e ∙ get_same given var (Some value) (omega (arith, within, e)) in
          absurd (cc)
      go (inr d) = are.below i other before at (sym (get_other given var other (Some value) d) ∙ none)

  pub given_given : (var : ℕ) (value : Bool) (low' : ℕ) → low' ≤ length scope
      → ((v : ℕ) → slice_get scope low' ≡ Some v → slice_get (slice_set given var (Some value)) v ≡ Some None)
      → ((i v : ℕ) → low ≤ i → i < low' → slice_get scope i ≡ Some v
      → slice_get (slice_set given var (Some value)) v ≡ Some None → ⊥)
      → AreGiven (slice_set given var (Some value)) scope low'
  given_given var value low' within free passed =
      let long : length (slice_set given var (Some value)) ≡ length given = length-set given var (Some value) in
      given_from (slice_set given var (Some value)) scope low low' (omega (arith, long, are.few))
      (subst (λ (n : ℕ). IsScope n scope) (sym long) are.is_scope) (before_given var value) within free passed

  pub scope_back : (lits : List Lit) → IsScope (length (freed given lits)) scope
  scope_back lits = subst (λ (n : ℕ). IsScope n scope) (sym (freed_length given lits)) are.is_scope

  -- what stays as it was where the variables of literals are freed
  pub given_back : (lits : List Lit) (least first low' : ℕ) → All (λ lit. least ≤ var_of lit) lits
      → ((i v : ℕ) → i < first → slice_get scope i ≡ Some v → v < least) → low' ≤ length scope
      → ((v : ℕ) → slice_get scope low' ≡ Some v → slice_get (freed given lits) v ≡ Some None)
      → ((i v : ℕ) → min low first ≤ i → i < low' → slice_get scope i ≡ Some v → slice_get (freed given lits) v ≡ Some None → ⊥)
      → AreGiven (freed given lits) scope low'
  given_back lits least first low' all below within free passed =
      let long : length (freed given lits) ≡ length given = freed_length given lits in
      given_from (freed given lits) scope (min low first) low' (omega (arith, long, are.few)) (scope_back lits) before
      within free passed
    where
      still : (xs : List (Option Bool)) (ls : List Lit) (v : ℕ) → All (λ lit. least ≤ var_of lit) ls → v < least
          → slice_get (freed xs ls) v ≡ slice_get xs v
      still xs [] v all less = refl
      still xs (l ∷ ls) v all less =
          let here : least ≤ var_of l = All-head (λ lit. least ≤ var_of lit) l ls all in
          still (slice_set xs (var_of l) None) ls v (All-tail (λ lit. least ≤ var_of lit) l ls all) less
          ∙ get_other xs (var_of l) v None (λ e. absurd (omega (arith, here, less, e)))

      before : (i v : ℕ) → i < min low first → slice_get scope i ≡ Some v → slice_get (freed given lits) v ≡ Some None → ⊥
      before i v early at none =
          are.below i v (omega (arith, early)) at
          (sym (still given lits v all (below i v (omega (arith, early)) at)) ∙ none)

  -- another scope
  pub given_focused : (scope' : List ℕ) (low' : ℕ) → IsScope (length given) scope' → low' ≤ length scope'
      → ((v : ℕ) → slice_get scope' low' ≡ Some v → slice_get given v ≡ Some None)
      → ((i v : ℕ) → 0 ≤ i → i < low' → slice_get scope' i ≡ Some v → slice_get given v ≡ Some None → ⊥)
      → AreGiven given scope' low'
  given_focused scope' low' is_scope within free passed =
      given_from given scope' 0 low' are.few is_scope (λ i v early at none. absurd (omega (arith, early))) within free passed
