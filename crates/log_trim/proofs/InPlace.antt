-- A log whose steps and statements are in place is.
use Rattle.std.proofs.Common.{◌≡◌, refl, sym, ◌<◌, ◌≤◌, ◌^◌, ℕ, zero, suc, List, [], ◌∷◌, length, All, Option, Some, None, slice_get, get_or, map, subst, arith}
use Rattle.std.proofs.lemmas.List.Elements.{All-nil}
use Rattle.std.proofs.lemmas.Option.{slice_get_within}
use Rattle.currency_base.specs.Literals.{var_of}
use Rattle.refutation_log.specs.Steps.{clause_of}
use Rattle.refutation_log.specs.declared.log.Log.{Log}
use Rattle.refutation_log.specs.declared.statement.Statement.TheVariants as statement
use Rattle.log_trim.specs.Place.{AreStepsInPlace, AreStatementsInPlace}
use Rattle.log_trim.specs.Trimmed.{AreInPlace, hints_of}
use Rattle.log_trim.proofs.Marking.{at_is}

-- what stands for a place past the end has no item
past : {A B : Type 0} (f : A → List B) (xs : List A) (n : ℕ) → length xs ≤ n → get_or (map f xs) n [] ≡ []
past f [] n h = refl
past f (x ∷ xs) zero h = absurd (omega arith)
past f (x ∷ xs) (suc n) h = past f xs n (omega arith)

none_past : {A : Type 0} (xs : List A) (n : ℕ) → slice_get xs n ≡ None → length xs ≤ n
none_past [] n e = omega arith
none_past (x ∷ xs) zero e = cc
none_past (x ∷ xs) (suc n) e = let h = none_past xs n e in omega arith

-- what holds of the list of each item holds of the list at each place
at_each : {A B : Type 0} (f : A → List B) (P : ℕ → B → Type 0) (xs : List A)
    → ((n : ℕ) (x : A) → slice_get xs n ≡ Some x → All (P n) (f x)) → (n : ℕ) → All (P n) (get_or (map f xs) n [])
at_each {A} {B} f P xs each n = by (slice_get xs n) refl
  where
    by : (found : Option A) → slice_get xs n ≡ found → All (P n) (get_or (map f xs) n [])
    by None e = subst (All (P n)) (sym (past f xs n (none_past xs n e))) (All-nil (P n))
    by (Some x) e = subst (All (P n)) (sym (at_is f xs n x e)) (each n x e)

pub are_in_place : (log : Log) (goals : List ℕ) → All (λ goal. goal < length log.steps) goals
    → AreStepsInPlace (length log.statements) (length log.steps) log.steps
    → AreStatementsInPlace (length log.answers) (length log.statements) log.statements
    → length log.steps < 2 ^ 32 → length log.statements < 2 ^ 31 → length log.answers < 2 ^ 32 → AreInPlace log goals
are_in_place log goals goals_in steps statements few_steps few_statements few_answers =
    record {
      goals_in = goals_in;
      hints_in = at_each hints_of (λ place hint. hint < place) log.steps
          (λ n x e. (steps n x (slice_get_within log.steps n x e) e).hints);
      vars_in = at_each clause_of (λ place lit. var_of lit < length log.statements) log.steps
          (λ n x e. (steps n x (slice_get_within log.steps n x e) e).vars);
      tuples_in = λ place tuple e. statements place (statement.Answer tuple)
          (slice_get_within log.statements place (statement.Answer tuple) e) e;
      few_steps = few_steps;
      few_statements = few_statements;
      few_answers = few_answers;
    }
