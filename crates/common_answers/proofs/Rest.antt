-- Two ascending lists gone over at once.
use Rattle.std.proofs.Common.{◌≡◌, ◌+◌, ◌<◌, ◌≤◌, ℕ, List, [], ◌∷◌, ◌++◌, All, Contains, Some, length, slice_get, take, sym, subst, ⊎_elim, arith}
use Rattle.std.specs.Cmp.{IsTotalOrder}
use Rattle.std.specs.Cmp.Lexicographic.{slice_cmp}
use Rattle.std.specs.Ordering.{ordering_reverse}
use Rattle.std.specs.declared.cmp.Ordering.{Ordering}
use Rattle.std.specs.declared.cmp.Ordering.TheVariants.{Less, Equal, Greater}
use Rattle.std.proofs.lemmas.Bool.{cases_eq, cases_lt}
use Rattle.std.proofs.lemmas.List.{take_all}
use Rattle.std.proofs.lemmas.List.Elements.{All-nil, All-push}
use Rattle.std.proofs.lemmas.Option.{slice_get_within}
use Rattle.currency_base.specs.Values.{value_cmp}
use Rattle.currency_base.specs.declared.value.Value.{Value}
use Rattle.query_model.specs.Answers.{AreAscending, IsBelow}
use Rattle.common_answers.proofs.Lists.{at_contains, front_more, item_at}
use Rattle.common_answers.proofs.Places.{rest_none, rest_push, rest_skip, tuples_more}
use Rattle.common_answers.specs.Candidates.{IsRest, Tuples, tuples_at}

abbrev pub IsTotal : Type 0
IsTotal = IsTotalOrder (slice_cmp value_cmp)

own : (order : Ordering) → order ≡ ordering_reverse order → order ≡ Less → ⊥
own Less e is = cc
own Equal e is = cc
own Greater e is = cc

never_below : IsTotal → (t : List Value) → IsBelow t t → ⊥
never_below total t is = own (slice_cmp value_cmp t t) (total.antisymm t t) is

-- the tuples before one place are below the answers from another on
abbrev pub ArePassed : Tuples → ℕ → Tuples → ℕ → Type 0
ArePassed tuples from answers at = (j i : ℕ) (t a : List Value) → j < from → at ≤ i → slice_get tuples j ≡ Some t
    → slice_get answers i ≡ Some a → IsBelow t a

-- the tuples from one place up to another are below this one
abbrev pub AreBelow : Tuples → ℕ → ℕ → List Value → Type 0
AreBelow tuples from next a = (j : ℕ) (t : List Value) → from ≤ j → j < next → slice_get tuples j ≡ Some t → IsBelow t a

-- what was passed for one answer is passed for the next
pub passed_more : IsTotal → (tuples : Tuples) (from next : ℕ) (answers : Tuples) (at : ℕ) (a : List Value) → AreAscending answers
    → slice_get answers at ≡ Some a → ArePassed tuples from answers at → AreBelow tuples from next a
    → ArePassed tuples next answers (at + 1)
passed_more total tuples from next answers at a ascending is passed below j i t b early late is_t is_b =
    ⊎_elim
    (λ (before : j < from). passed j i t b before (omega (arith, late)) is_t is_b)
    (λ (behind : from ≤ j).
    total.trans t a b (below j t behind early is_t) (ascending at i a b (omega (arith, late)) is is_b))
    (cases_lt j from)

-- an answer that does not stand where the tuples are no longer below it is none of them
pub not_there : IsTotal → (tuples : Tuples) (from next : ℕ) (answers : Tuples) (at : ℕ) (a : List Value) → AreAscending tuples
    → slice_get answers at ≡ Some a → ArePassed tuples from answers at → AreBelow tuples from next a
    → ((t : List Value) → slice_get tuples next ≡ Some t → IsBelow t a → ⊥) → (slice_get tuples next ≡ Some a → ⊥)
    → Contains tuples a → ⊥
not_there total tuples from next answers at a ascending is passed below here apart there =
    let place = at_contains tuples a there in
    ⊎_elim
    (λ (before : place.0 < next). early place.0 place.1 before)
    (λ (behind : next ≤ place.0).
    ⊎_elim
    (λ (same : next ≡ place.0). apart (subst (λ k. slice_get tuples k ≡ Some a) (sym same) place.1))
    (λ (other : next ≡ place.0 → ⊥). late place.0 place.1 (omega arith))
    (cases_eq next place.0))
    (cases_lt place.0 next)
  where
    early : (j : ℕ) → slice_get tuples j ≡ Some a → j < next → ⊥
    early j is_j before =
        never_below total a
        (⊎_elim
        (λ (first : j < from). passed j at a a first (omega arith) is_j is)
        (λ (behind : from ≤ j). below j a behind before is_j)
        (cases_lt j from))

    late : (j : ℕ) → slice_get tuples j ≡ Some a → next < j → ⊥
    late j is_j behind =
        let t = item_at tuples next (omega (arith, slice_get_within tuples j a is_j)) in
        here t.0 t.1 (ascending next j t.0 a behind t.1 is_j)

-- ---- the places of the answers that are none of the tuples

-- so many answers gone over, and the tuples before a place
pub record AreMerged (answers tuples : Tuples) (at from : ℕ) (left : List ℕ) : Type 0 where
  pub within : All (λ place. place < length answers) left
  pub rest : IsRest (take at answers) tuples (tuples_at answers left)
  pub passed : ArePassed tuples from answers at

pub merged_none : (answers tuples : Tuples) → AreMerged answers tuples 0 0 []
merged_none answers tuples =
    record {
      within = All-nil (λ place. place < length answers);
      rest = rest_none tuples;
      passed = λ j i t a early late is_t is_a. absurd (omega (arith, early));
    }

-- one answer more, which is one of the tuples
pub merged_there : IsTotal → (answers tuples : Tuples) (at from next : ℕ) (left : List ℕ) (a : List Value) → AreAscending answers
    → slice_get answers at ≡ Some a → AreBelow tuples from next a → Contains tuples a
    → AreMerged answers tuples at from left → AreMerged answers tuples (at + 1) next left
merged_there total answers tuples at from next left a ascending is below there merged =
    record {
      within = merged.within;
      rest = subst (λ front. IsRest front tuples (tuples_at answers left)) (sym (front_more answers at a is))
          (rest_skip (take at answers) tuples (tuples_at answers left) a there merged.rest);
      passed = passed_more total tuples from next answers at a ascending is merged.passed below;
    }

-- and one that is none
pub merged_apart : IsTotal → (answers tuples : Tuples) (at from next : ℕ) (left more : List ℕ) (a : List Value)
    → AreAscending answers
    → AreAscending tuples → slice_get answers at ≡ Some a → AreBelow tuples from next a
    → ((t : List Value) → slice_get tuples next ≡ Some t → IsBelow t a → ⊥) → (slice_get tuples next ≡ Some a → ⊥)
    → more ≡ left ++ at ∷ [] → AreMerged answers tuples at from left → AreMerged answers tuples (at + 1) next more
merged_apart total answers tuples at from next left more a ascending ascend is below here apart pushed merged =
    record {
      within = subst (All (λ place. place < length answers)) (sym pushed)
          (All-push (λ place. place < length answers) left at merged.within (slice_get_within answers at a is));
      rest = subst (λ places. IsRest (take (at + 1) answers) tuples (tuples_at answers places)) (sym pushed)
          (subst (λ front. IsRest front tuples (tuples_at answers (left ++ at ∷ []))) (sym (front_more answers at a is))
          (subst (IsRest (take at answers ++ a ∷ []) tuples) (sym (tuples_more answers left at a is))
          (rest_push (take at answers) tuples (tuples_at answers left) a never merged.rest)));
      passed = passed_more total tuples from next answers at a ascending is merged.passed below;
    }
  where
    never : Contains tuples a → ⊥
    never = not_there total tuples from next answers at a ascend is merged.passed below here apart

pub merged_all : (answers tuples : Tuples) (at from : ℕ) (left : List ℕ) → length answers ≤ at
    → AreMerged answers tuples at from left → IsRest answers tuples (tuples_at answers left)
merged_all answers tuples at from left past merged =
    subst (λ front. IsRest front tuples (tuples_at answers left)) (take_all at answers past) merged.rest
