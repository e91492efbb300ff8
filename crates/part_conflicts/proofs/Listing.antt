-- One smallest part after another is decided.
use Rattle.std.proofs.Common.{◌≡◌, ◌∙◌, ◌⊎◌, ◌<◌, ◌≤◌, ◌+◌, ℕ, zero, suc, List, ◌++◌, ◌∷◌, [], All, Contains, Option, Some, None, inl, inr, refl, sym, ap, subst, length, slice_get, arith}
use Rattle.std.proofs.lemmas.Bool.{cases_lt}
use Rattle.std.proofs.lemmas.List.{length_push}
use Rattle.std.proofs.lemmas.List.Elements.{All-head, All-nil, All-push, All-tail, All-weaker, Contains-append_left, Contains-push}
use Rattle.std.proofs.lemmas.Option.{none-some, same_Some, slice_get_within}
use Rattle.entity_ties.specs.Labels.{Labelling, scope_of}
use Rattle.core_explain.specs.Explained.{ExplainsInconsistency}
use Rattle.core_explain.specs.Explained.{IsSpent}
use Rattle.minimal_items.specs.Reduced.{IsSpentOn}
use Rattle.minimal_items.specs.declared.needed.Needed.{Needed}
use Rattle.part_laws.specs.Parts.{ArePlacesOf, IsClosed, Places}
use Rattle.part_limits.specs.Laws.{PartsAreWithin}
use Rattle.search_logs.specs.SearchLogs.{IsWithin}
use Rattle.spec_model.specs.Consistent.{IsSatisfiable}
use Rattle.spec_model.specs.Facts.{IsSpecification}
use Rattle.spec_model.specs.Spec.{Spec}
use Rattle.spec_model.specs.declared.question.Question.TheVariants.{Consistent}
use Rattle.spec_parts.specs.Built.{IsBuilt}
use Rattle.part_conflicts.specs.Conflicts.{AreConflictsOf, AreConflictsUpTo, IsConflict, IsConsistentPart, IsSmallest}
use Rattle.part_conflicts.specs.Steps.{AreDecidedTo, IsPartDecided, IsStopped, conflict}
use Rattle.part_conflicts.specs.declared.found.Conflict.{Conflict}
use Rattle.part_conflicts.specs.declared.found.Found.{Found}
use Rattle.part_conflicts.specs.declared.found.Found.TheVariants as found

-- ---- places in a list with one item more

get_push : {A : Type 0} (xs : List A) (y z : A) (k : ℕ) → slice_get (xs ++ y ∷ []) k ≡ Some z
    → (slice_get xs k ≡ Some z) ⊎ ((k ≡ length xs) × (y ≡ z))
get_push [] y z zero at = inr (refl, same_Some y z at)
get_push [] y z (suc k) at = absurd (none-some z at)
get_push (x ∷ xs) y z zero at = inl at
get_push (x ∷ xs) y z (suc k) at = by (get_push xs y z k at)
  where
    by : (slice_get xs k ≡ Some z) ⊎ ((k ≡ length xs) × (y ≡ z))
        → (slice_get xs k ≡ Some z) ⊎ ((suc k ≡ suc (length xs)) × (y ≡ z))
    by (inl h) = inl h
    by (inr h) = inr (ap suc h.0, h.1)

below_at : (bound : ℕ) (xs : List ℕ) (k x : ℕ) → All (λ n. n < bound) xs → slice_get xs k ≡ Some x → x < bound
below_at bound (y ∷ xs) zero x below at =
    subst (λ (n : ℕ). n < bound) (same_Some y x at) (All-head (λ n. n < bound) y xs below)
below_at bound (y ∷ xs) (suc k) x below at = below_at bound xs k x (All-tail (λ n. n < bound) y xs below) at
below_at bound [] k x below at = absurd (none-some x at)

ascend_push : (xs : List ℕ) (bound : ℕ) → All (λ n. n < bound) xs
    → ((i j x y : ℕ) → i < j → slice_get xs i ≡ Some x → slice_get xs j ≡ Some y → x < y)
    → (i j x y : ℕ) → i < j → slice_get (xs ++ bound ∷ []) i ≡ Some x → slice_get (xs ++ bound ∷ []) j ≡ Some y → x < y
ascend_push xs bound below ascend i j x y less at at' = by (get_push xs bound x i at) (get_push xs bound y j at')
  where
    by : (slice_get xs i ≡ Some x) ⊎ ((i ≡ length xs) × (bound ≡ x))
        → (slice_get xs j ≡ Some y) ⊎ ((j ≡ length xs) × (bound ≡ y)) → x < y
    by (inl one) (inl other) = ascend i j x y less one other
    by (inl one) (inr other) = subst (λ (n : ℕ). x < n) other.1 (below_at bound xs i x below one)
    by (inr one) (inl other) = absurd (omega (arith, less, one.0, slice_get_within xs j y other))
    by (inr one) (inr other) = absurd (omega (arith, less, one.0, other.0))

later : (bound : ℕ) (xs : List ℕ) → All (λ n. n < bound) xs → All (λ n. n < bound + 1) xs
later bound xs below =
    All-weaker (λ (n : ℕ). n < bound) (λ (n : ℕ). n < bound + 1) (λ n less. omega (arith, less)) xs below

-- ---- the smallest parts below a bound

module _ (s : Spec) (t : Labelling) where
  -- none is below 0
  pub none_below : AreConflictsUpTo s t 0 []
  none_below = record {
    numbers = [];
    per_conflict = refl;
    ascend = λ i j x y less at at'. absurd (none-some x at);
    below = All-nil (λ (n : ℕ). n < 0);
    each = λ k number c at at'. absurd (none-some number at);
    rest = λ number less. absurd (omega (arith, less));
  }

  -- the next one is listed
  one_listed : (number : ℕ) (list : List Conflict) (part : Spec) (needed : List Needed)
      → AreConflictsUpTo s t number list → IsSmallest s t number part → ExplainsInconsistency part needed
      → AreConflictsUpTo s t (number + 1) (list ++ conflict part needed ∷ [])
  one_listed number list part needed are is explained = record {
    numbers = are.numbers ++ number ∷ [];
    per_conflict = length_push are.numbers number ∙ ap (λ (n : ℕ). n + 1) are.per_conflict
        ∙ sym (length_push list (conflict part needed));
    ascend = ascend_push are.numbers number are.below are.ascend;
    below = All-push (λ (n : ℕ). n < number + 1) are.numbers number (later number are.numbers are.below) (omega arith);
    each = λ k n c at at'.
        each k n c (get_push are.numbers number n k at) (get_push list (conflict part needed) c k at');
    rest = λ n less. rest n less (cases_lt n number);
  }
    where
      each : (k n : ℕ) (c : Conflict) → (slice_get are.numbers k ≡ Some n) ⊎ ((k ≡ length are.numbers) × (number ≡ n))
          → (slice_get list k ≡ Some c) ⊎ ((k ≡ length list) × (conflict part needed ≡ c)) → IsConflict s t n c
      each k n c (inl at) (inl at') = are.each k n c at at'
      each k n c (inl at) (inr at') =
          absurd (omega (arith, are.per_conflict, at'.0, slice_get_within are.numbers k n at))
      each k n c (inr at) (inl at') = absurd (omega (arith, are.per_conflict, at.0, slice_get_within list k c at'))
      each k n c (inr at) (inr at') =
          subst (λ (m : ℕ). IsConflict s t m c) at.1
          (subst (λ (d : Conflict). IsConflict s t number d) at'.1 (record { is_smallest = is; explained = explained }))

      rest : (n : ℕ) → n < number + 1 → (n < number) ⊎ (number ≤ n)
          → Contains (are.numbers ++ number ∷ []) n ⊎ IsConsistentPart s t n
      rest n less (inl before) = earlier n (are.rest n before)
        where
          earlier : (n : ℕ) → Contains are.numbers n ⊎ IsConsistentPart s t n
              → Contains (are.numbers ++ number ∷ []) n ⊎ IsConsistentPart s t n
          earlier n (inl listed) = inl (Contains-append_left are.numbers (number ∷ []) n listed)
          earlier n (inr settled) = inr settled
      rest n less (inr past) =
          let same : number ≡ n = omega (arith, less, past) in
          inl (subst (Contains (are.numbers ++ number ∷ [])) same (Contains-push are.numbers number))

  -- the next one is passed
  one_passed : (number : ℕ) (list : List Conflict) (part : Spec) → AreConflictsUpTo s t number list
      → IsSmallest s t number part → IsSatisfiable part → AreConflictsUpTo s t (number + 1) list
  one_passed number list part are is satisfiable = record {
    numbers = are.numbers;
    per_conflict = are.per_conflict;
    ascend = are.ascend;
    below = later number are.numbers are.below;
    each = are.each;
    rest = λ n less. rest n less (cases_lt n number);
  }
    where
      rest : (n : ℕ) → n < number + 1 → (n < number) ⊎ (number ≤ n) → Contains are.numbers n ⊎ IsConsistentPart s t n
      rest n less (inl before) = are.rest n before
      rest n less (inr past) =
          let same : number ≡ n = omega (arith, less, past) in
          inr (subst (IsConsistentPart s t) same (record { part = part; is_smallest = is; satisfiable = satisfiable }))

  -- the next one is decided, or for it the budget is spent
  pub one_decided : (budget number : ℕ) (old new : List Conflict) (part : Spec) → AreConflictsUpTo s t number old
      → IsSmallest s t number part → (o : Option Found) → IsPartDecided part budget old new o
      → AreDecidedTo s t budget (number + 1) new o
  one_decided budget number old new part are is None (inl listed) =
      subst (AreConflictsUpTo s t (number + 1)) (sym listed.listed)
      (one_listed number old part listed.needed are is listed.explained)
  one_decided budget number old new part are is None (inr passed) =
      subst (AreConflictsUpTo s t (number + 1)) (sym passed.kept) (one_passed number old part are is passed.satisfiable)
  one_decided budget number old new part are is (Some (found.All list)) spent = absurd spent
  one_decided budget number old new part are is (Some (found.Undecided left report)) spent = record {
    number = number;
    is_smallest = subst (IsSmallest s t number) (sym spent.0) is;
    spent = subst (λ (p : Spec). IsSpent p Consistent budget report) (sym spent.0) spent.1;
  }
  one_decided budget number old new part are is (Some (found.Open left rest)) spent = record {
    number = number;
    is_smallest = subst (IsSmallest s t number) (sym spent.0) is;
    spent_on = subst (λ (p : Spec). IsSpentOn p Consistent budget rest) (sym spent.0) spent.1;
  }

  -- a smallest part is within the limits
  pub part_within : (number : ℕ) (part : Spec) → PartsAreWithin → IsWithin s → IsSmallest s t number part
      → IsSpecification part → IsWithin part
  part_within number part law whole is specification =
      let none = law s (scope_of t (number ∷ [])) is.places part whole.specification is.is_part
      (record { parts = whole.parts; variables_few = whole.variables_few; instances_few = whole.instances_few }) in
      record {
        specification = specification;
        parts = none.parts;
        variables_few = none.variables_few;
        instances_few = none.instances_few;
      }

  -- what is built of a smallest part's places is that part
  pub smallest : (number : ℕ) (n : Places) (part : Spec) → number < t.count
      → ArePlacesOf s.relations (scope_of t (number ∷ [])) n → IsClosed s (scope_of t (number ∷ [])) → IsBuilt s n part
      → IsSmallest s t number part
  smallest number n part within places closed built = record {
    within = within;
    places = n;
    is_part = built (scope_of t (number ∷ [])) places closed;
  }

-- ---- the whole search

pub stopped : (s : Spec) (t : Labelling) (budget : ℕ) (f : Found) → IsStopped s t budget f → AreConflictsOf s t budget f
stopped s t budget (found.All list) is = absurd is
stopped s t budget (found.Undecided part report) is = is
stopped s t budget (found.Open part spent) is = is
