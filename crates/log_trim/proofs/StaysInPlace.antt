-- The numbers in a trimmed log, and its goals, are places in its lists.
use Rattle.std.proofs.Common.{◌≡◌, inl, inr, ◌∙◌, ◌<◌, ◌≤◌, ℕ, Bool, List, [], ◌∷◌, length, map, Some, slice_get, sym, refl, ap, subst, arith, All, Contains}
use Rattle.std.proofs.lemmas.Bool.{cases_Bool}
use Rattle.std.proofs.lemmas.List.{length-map, get_or_past}
use Rattle.std.proofs.lemmas.List.Elements.{Contains-get_or, All-map, All-contains}
use Rattle.std.proofs.lemmas.Option.{slice_get_cases, slice_get_within}
use Rattle.currency_base.specs.Literals.{var_of, is_negative}
use Rattle.currency_base.specs.declared.lit.Lit.{Lit}
use Rattle.refutation_log.specs.Steps.{clause_of, clauses_of}
use Rattle.refutation_log.specs.declared.log.Log.{Log}
use Rattle.refutation_log.specs.declared.statement.Statement.{Statement}
use Rattle.refutation_log.specs.declared.statement.Statement.TheVariants.{Before, Top, Last, Answer}
use Rattle.refutation_log.specs.declared.step.Step.{Step}
use Rattle.refutation_log.specs.declared.step.Step.TheVariants.{Axiom, OnDemand, Learn}
use Rattle.log_trim.specs.Trimmed.{is_goal, is_hint, IsUsedVar, IsUsedAnswer, IsTrimmed, AreInPlace, kept_of, rank, lits_at, hints_at, hints_of, renumbered_lit, renumbered_step, renumbered_statement}
use Rattle.log_trim.specs.Laws.{StaysInPlace}
use Rattle.log_trim.specs.declared.trimming.Trimmed.{Trimmed}
use Rattle.log_trim.proofs.Closure.{none_behind}
use Rattle.log_trim.proofs.Marking.{at_is, contains_none}
use Rattle.log_trim.proofs.NewPlaces.{changed_from, rank_lt, steps_keep, statements_keep, answers_keep}
use Rattle.log_trim.proofs.Ranks.{behind}
use Rattle.log_trim.proofs.RenumberedLits.{literal_var}
use Rattle.log_trim.proofs.StillFollows.{renumbered_clause}
use Rattle.log_trim.proofs.Whole.{contains_mapped}

-- ---- lists that are kept and changed

kept_count : {X : Type 0} (keep : ℕ → Bool) (xs : List X) → length (kept_of keep xs) ≤ length xs
kept_count keep [] = omega arith
kept_count keep (x ∷ xs) =
    let rest : length (kept_of (behind keep) xs) ≤ length xs = kept_count (behind keep) xs in
    elim (cases_Bool (keep 0)) [ inl e ↦ rw e (omega arith) | inr e ↦ rw e (omega arith) ]

changed_count : {X Y : Type 0} (f : X → Y) (keep : ℕ → Bool) (xs : List X) (ys : List Y) → ys ≡ map f (kept_of keep xs)
    → length ys ≤ length xs
changed_count f keep xs ys same =
    let fewer = kept_count keep xs in
    let count = length-map (kept_of keep xs) f in
    rw same (omega arith)

item_at : {X : Type 0} (xs : List X) (n : ℕ) → n < length xs → (x : X) × (slice_get xs n ≡ Some x)
item_at xs n within =
    elim ((slice_get_cases xs n).1) [
      | inl one ↦ (one.0, one.2)
      | inr past ↦ absurd (let h = past.0 in omega arith)
    ]

all_of : {X : Type 0} (P : X → Type 0) (xs : List X) → ((x : X) → Contains xs x → P x) → All P xs
all_of P xs each k d below = each _ (Contains-get_or xs k d below)

-- ---- steps

renumbered_hints : (keep vars : ℕ → Bool) (s : Step) → hints_of (renumbered_step keep vars s) ≡ map (rank keep) (hints_of s)
renumbered_hints keep vars (Axiom l lits) = refl
renumbered_hints keep vars (OnDemand l lits) = refl
renumbered_hints keep vars (Learn lits hints counted) = refl

goal_in : (log : Log) (goals : List ℕ) (trimmed : Trimmed) (t : IsTrimmed log goals trimmed) → AreInPlace log goals
    → (goal : ℕ) → Contains goals goal → rank t.step_kept goal < length trimmed.log.steps
goal_in log goals trimmed t inside goal is_in =
    let within : goal < length log.steps = All-contains (λ g. g < length log.steps) goals goal inside.goals_in is_in in
    let one = item_at log.steps goal within in
    slice_get_within trimmed.log.steps _ _ (steps_keep log goals trimmed t goal one.0 (is_goal goal is_in) one.1)

hint_in : (log : Log) (goals : List ℕ) (trimmed : Trimmed) (t : IsTrimmed log goals trimmed) → AreInPlace log goals
    → (place hint : ℕ) → Contains (hints_at trimmed.log.steps place) hint → hint < place
hint_in log goals trimmed t inside place hint is_in =
    elim ((slice_get_cases trimmed.log.steps place).1) [
      | inl new ↦
          let was =
          changed_from (renumbered_step t.step_kept t.statement_kept) t.step_kept log.steps trimmed.log.steps place new.0 t.steps
          new.2 in
          let s = was.0 in
          let from = was.1 in
          let hints_are : hints_at trimmed.log.steps place ≡ map (rank t.step_kept) (hints_of s) =
          at_is hints_of trimmed.log.steps place new.0 new.2 ∙ ap hints_of (sym was.2)
          ∙ renumbered_hints t.step_kept t.statement_kept s in
          let renumbered = subst (λ (hs : List ℕ). Contains hs hint) hints_are is_in in
          let old = contains_mapped (rank t.step_kept) (hints_of s) hint renumbered in
          let old_are : hints_at log.steps from.place ≡ hints_of s = at_is hints_of log.steps from.place s from.there in
          let old_in : Contains (hints_at log.steps from.place) old.0 =
          subst (λ (hs : List ℕ). Contains hs old.0) (sym old_are) old.1 in
          let below : old.0 < from.place =
          All-contains (λ h. h < from.place) (hints_at log.steps from.place) old.0 (inside.hints_in from.place) old_in in
          let reached = is_hint from.place old.0 ((t.kept_steps from.place).0 from.kept) old_in in
          let lower : rank t.step_kept old.0 < rank t.step_kept from.place =
          rank_lt t.step_kept old.0 from.place ((t.kept_steps old.0).1 reached) below in
          let new_hint = old.2 in
          let new_place = from.is_new in
          omega arith
      | inr past ↦ absurd (none_behind trimmed.log.steps place hint past.0 is_in)
    ]

lits_behind : (steps : List Step) (place : ℕ) (lit : Lit) → length steps ≤ place → Contains (lits_at steps place) lit → ⊥
lits_behind steps place lit past is_in =
    let count : length (clauses_of steps) ≡ length steps = length-map steps clause_of in
    let none : lits_at steps place ≡ [] = get_or_past (clauses_of steps) place [] (omega arith) in
    contains_none lit (subst (λ (lits : List Lit). Contains lits lit) none is_in)

var_in : (log : Log) (goals : List ℕ) (trimmed : Trimmed) (t : IsTrimmed log goals trimmed) → AreInPlace log goals
    → (place : ℕ) (lit : Lit) → Contains (lits_at trimmed.log.steps place) lit → var_of lit < length trimmed.log.statements
var_in log goals trimmed t inside place lit is_in =
    elim ((slice_get_cases trimmed.log.steps place).1) [
      | inl new ↦
          let was =
          changed_from (renumbered_step t.step_kept t.statement_kept) t.step_kept log.steps trimmed.log.steps place new.0 t.steps
          new.2 in
          let s = was.0 in
          let from = was.1 in
          let lits_are : lits_at trimmed.log.steps place ≡ map (renumbered_lit t.statement_kept) (clause_of s) =
          at_is clause_of trimmed.log.steps place new.0 new.2 ∙ ap clause_of (sym was.2)
          ∙ renumbered_clause t.step_kept t.statement_kept s in
          let renumbered = subst (λ (ls : List Lit). Contains ls lit) lits_are is_in in
          let old = contains_mapped (renumbered_lit t.statement_kept) (clause_of s) lit renumbered in
          let new_var : rank t.statement_kept (var_of old.0) ≡ var_of lit =
          sym (literal_var (rank t.statement_kept (var_of old.0)) (is_negative old.0)) ∙ ap (λ (l : Lit). var_of l) old.2 in
          let old_are : lits_at log.steps from.place ≡ clause_of s = at_is clause_of log.steps from.place s from.there in
          let old_in : Contains (lits_at log.steps from.place) old.0 =
          subst (λ (ls : List Lit). Contains ls old.0) (sym old_are) old.1 in
          let used : IsUsedVar log.steps goals (var_of old.0) =
          record {
            place = from.place;
            reached = (t.kept_steps from.place).0 from.kept;
            lit = old.0;
            is_in = old_in;
            is_var = refl;
          } in
          let within : var_of old.0 < length log.statements =
          All-contains (λ l. var_of l < length log.statements) (lits_at log.steps from.place) old.0 (inside.vars_in from.place)
          old_in in
          let one = item_at log.statements (var_of old.0) within in
          subst (λ (v : ℕ). v < length trimmed.log.statements) new_var
          (slice_get_within trimmed.log.statements (rank t.statement_kept (var_of old.0))
          (renumbered_statement t.answer_kept one.0)
          (statements_keep log goals trimmed t (var_of old.0) one.0 used one.1))
      | inr past ↦ absurd (lits_behind trimmed.log.steps place lit past.0 is_in)
    ]

-- ---- statements

renumbered_answer : (keep : ℕ → Bool) (s : Statement) (tuple : ℕ) → renumbered_statement keep s ≡ Answer tuple
    → (old : ℕ) × (s ≡ Answer old) × (rank keep old ≡ tuple)
renumbered_answer keep (Before rel attr earlier later) tuple same = absurd (cc)
renumbered_answer keep (Top rel attr row) tuple same = absurd (cc)
renumbered_answer keep (Last rel attr row) tuple same = absurd (cc)
renumbered_answer keep (Answer old) tuple same = (old, refl, cc)

tuple_in : (log : Log) (goals : List ℕ) (trimmed : Trimmed) (t : IsTrimmed log goals trimmed) → AreInPlace log goals
    → (place tuple : ℕ) → slice_get trimmed.log.statements place ≡ Some (Answer tuple) → tuple < length trimmed.log.answers
tuple_in log goals trimmed t inside place tuple there =
    let was =
    changed_from (renumbered_statement t.answer_kept) t.statement_kept log.statements trimmed.log.statements place
    (Answer tuple) t.statements there in
    let from = was.1 in
    let old = renumbered_answer t.answer_kept was.0 tuple was.2 in
    let names : slice_get log.statements from.place ≡ Some (Answer old.0) = from.there ∙ ap (λ (s : Statement). Some s) old.1 in
    let one = item_at log.answers old.0 (inside.tuples_in from.place old.0 names) in
    let named : IsUsedAnswer log goals old.0 =
    record { var = from.place; used = (t.kept_statements from.place).0 from.kept; names = names } in
    subst (λ (n : ℕ). n < length trimmed.log.answers) old.2
    (slice_get_within trimmed.log.answers _ _ (answers_keep log goals trimmed t old.0 one.0 named one.1))

pub stays_in_place : StaysInPlace
stays_in_place log goals trimmed t inside =
    let fewer_steps : length trimmed.log.steps ≤ length log.steps =
    changed_count (renumbered_step t.step_kept t.statement_kept) t.step_kept log.steps trimmed.log.steps t.steps in
    let fewer_statements : length trimmed.log.statements ≤ length log.statements =
    changed_count (renumbered_statement t.answer_kept) t.statement_kept log.statements trimmed.log.statements t.statements in
    let fewer_answers : length trimmed.log.answers ≤ length log.answers = rw t.answers (kept_count t.answer_kept log.answers) in
    let few_steps = inside.few_steps in
    let few_statements = inside.few_statements in
    let few_answers = inside.few_answers in
    record {
      goals_in =
          subst (λ (gs : List ℕ). All (λ g. g < length trimmed.log.steps) gs) (sym t.new_goals)
          (All-map (λ g. g < length trimmed.log.steps) (rank t.step_kept) goals
          (all_of _ goals (goal_in log goals trimmed t inside)));
      hints_in = λ place. all_of _ _ (hint_in log goals trimmed t inside place);
      vars_in = λ place. all_of _ _ (var_in log goals trimmed t inside place);
      tuples_in = tuple_in log goals trimmed t inside;
      few_steps = omega arith;
      few_statements = omega arith;
      few_answers = omega arith;
    }
