-- Logs that pass the test can be checked.
use Rattle.std.proofs.Common.{◌≡◌, refl, ◌<◌, ◌+◌, ◌^◌, ◌&&◌, ℕ, zero, suc, Bool, true, false, nat_lt, List, [], ◌∷◌, length, drop, All, Some, slice_get, arith}
use Rattle.std.specs.List.{list_all}
use Rattle.std.proofs.lemmas.Bool.{ltb-true}
use Rattle.std.proofs.lemmas.List.Elements.{All-nil, All-cons}
use Rattle.currency_base.specs.Literals.{var_of}
use Rattle.currency_base.specs.declared.lit.Lit.{Lit}
use Rattle.refutation_log.specs.Steps.{clause_of}
use Rattle.refutation_log.specs.declared.statement.Statement.{Statement}
use Rattle.refutation_log.specs.declared.step.Step.{Step}
use Rattle.refutation_log.specs.declared.step.Step.TheVariants.{Axiom, OnDemand, Learn}
use Rattle.refutation_log.specs.Numbered.{IsNumbered, HasFewHints}
use Rattle.log_checker.specs.Numbered.{are_within, is_numbered_step, is_numbered}

pub left_more : {A : Type 0} (xs : List A) (i : ℕ) (x : A) → slice_get xs i ≡ Some x → drop i xs ≡ x ∷ drop (i + 1) xs
left_more xs i x e = rw up (by xs i x e)
  where
    up : i + 1 ≡ suc i
    up = omega arith

    by : {A : Type 0} (xs : List A) (i : ℕ) (x : A) → slice_get xs i ≡ Some x → drop i xs ≡ x ∷ drop (suc i) xs
    by [] i x e = cc
    by (y ∷ xs) zero x e = cc
    by (y ∷ xs) (suc i) x e = by xs i x e

-- ---- from tests to what they say

both : (a b : Bool) → (a && b) ≡ true → (a ≡ true) × (b ≡ true)
both true b e = (refl, e)
both false b e = cc

each : {A : Type 0} (p : A → Bool) (P : A → Type 0) → ((x : A) → p x ≡ true → P x) → (xs : List A)
    → list_all p xs ≡ true → All P xs
each p P says [] e = All-nil P
each p P says (x ∷ xs) e = let h = both (p x) (list_all p xs) e in All-cons P x xs (says x h.0) (each p P says xs h.1)

module _ (n : ℕ) where
  within : (lits : List Lit) → are_within n lits ≡ true → All (λ lit. var_of lit < n) lits
  within lits e = each (λ lit. nat_lt (var_of lit) n) (λ lit. var_of lit < n) (λ lit h. ltb-true (var_of lit) n h) lits e

  lits_within : (step : Step) → is_numbered_step n step ≡ true → All (λ lit. var_of lit < n) (clause_of step)
  lits_within (Axiom l lits) e = within lits e
  lits_within (OnDemand l lits) e = within lits e
  lits_within (Learn lits hints counted) e = within lits (both (are_within n lits) (nat_lt (length hints) (2 ^ 32)) e).0

  few_hints : (step : Step) → is_numbered_step n step ≡ true → HasFewHints step
  few_hints (Axiom l lits) e = tt
  few_hints (OnDemand l lits) e = tt
  few_hints (Learn lits hints counted) e = ltb-true (length hints) (2 ^ 32)
      (both (are_within n lits) (nat_lt (length hints) (2 ^ 32)) e).1

pub numbered_by_test : (statements : List Statement) (steps : List Step) → is_numbered statements steps ≡ true
    → IsNumbered statements steps
numbered_by_test statements steps e =
    let n = length statements in
    let all = both (nat_lt n (2 ^ 32) && nat_lt (length steps) (2 ^ 32)) (list_all (is_numbered_step n) steps) e in
    let few = both (nat_lt n (2 ^ 32)) (nat_lt (length steps) (2 ^ 32)) all.0 in
    record {
      within = each (is_numbered_step n) (λ step. All (λ lit. var_of lit < n) (clause_of step)) (lits_within n) steps all.1;
      few_statements = ltb-true n (2 ^ 32) few.0;
      few_steps = ltb-true (length steps) (2 ^ 32) few.1;
      few_hints = each (is_numbered_step n) HasFewHints (few_hints n) steps all.1;
    }
