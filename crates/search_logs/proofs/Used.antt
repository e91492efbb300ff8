-- What a log is trimmed to has no statement and no answer that none of its steps needs, and no more counted steps.
use Rattle.std.proofs.Common.{◌≡◌, ◌∙◌, ◌+◌, ◌<◌, ◌≤◌, ℕ, Bool, cond, List, [], ◌∷◌, All, Contains, Some, inl, inr, length, map, slice_get, refl, sym, ap, subst, arith}
use Rattle.std.proofs.lemmas.Bool.{cases_Bool}
use Rattle.std.proofs.lemmas.List.{get_or_past, length-map}
use Rattle.std.proofs.lemmas.List.Sums.{sum_by-cons}
use Rattle.std.proofs.lemmas.Option.{slice_get_cases}
use Rattle.currency_base.specs.Literals.{is_negative, var_of}
use Rattle.currency_base.specs.declared.lit.Lit.{Lit}
use Rattle.currency_base.specs.declared.value.Value.{Value}
use Rattle.refutation_log.specs.Counted.{counted_steps}
use Rattle.refutation_log.specs.Steps.{clause_of, clauses_of, is_counted}
use Rattle.refutation_log.specs.declared.log.Log.{Log}
use Rattle.refutation_log.specs.declared.statement.Statement.TheVariants.{Answer}
use Rattle.refutation_log.specs.declared.step.Step.{Step}
use Rattle.refutation_log.specs.declared.step.Step.TheVariants.{Axiom, OnDemand, Learn}
use Rattle.log_trim.specs.Trimmed.{Reaches, IsTrimmed, IsUsedAnswer, IsUsedVar, kept_of, lits_at, rank, renumbered_lit, renumbered_statement, renumbered_step}
use Rattle.log_trim.specs.declared.trimming.Trimmed.{Trimmed}
use Rattle.log_trim.proofs.NewPlaces.{changed_from, kept_from, statements_keep, steps_keep}
use Rattle.log_trim.proofs.Ranks.{behind}
use Rattle.log_trim.proofs.RenumberedLits.{literal_var}
use Rattle.order_literals.proofs.Items.{IsIn, contained, in_at, in_contained, in_map}
use Rattle.search_logs.proofs.OnceLists.{all_placed, list_at}
use Rattle.search_logs.proofs.Trimmed.{still_reached}

-- ---- steps that are counted

counted_cons : (x : Step) (xs : List Step) → counted_steps (x ∷ xs) ≡ cond (is_counted x) 1 0 + counted_steps xs
counted_cons x xs = sum_by-cons (λ (step : Step). cond (is_counted step) 1 0) x xs

-- of some of the steps no more are counted than of all
counted_kept : (keep : ℕ → Bool) (xs : List Step) → counted_steps (kept_of keep xs) ≤ counted_steps xs
counted_kept keep [] = omega arith
counted_kept keep (x ∷ xs) =
    let rest : counted_steps (kept_of (behind keep) xs) ≤ counted_steps xs = counted_kept (behind keep) xs in
    let all = counted_cons x xs in
    let some = counted_cons x (kept_of (behind keep) xs) in
    elim (cases_Bool (keep 0)) [
      | inl e ↦ rw e (omega (arith, rest, all, some))
      | inr e ↦ rw e (omega (arith, rest, all))
    ]

module _ (steps vars : ℕ → Bool) where
  same_counted : (x : Step) → is_counted (renumbered_step steps vars x) ≡ is_counted x
  same_counted (Axiom l lits) = refl
  same_counted (OnDemand l lits) = refl
  same_counted (Learn lits hints counted) = refl

  -- renumbering leaves what is counted
  counted_renumbered : (xs : List Step) → counted_steps (map (renumbered_step steps vars) xs) ≡ counted_steps xs
  counted_renumbered [] = refl
  counted_renumbered (x ∷ xs) =
      counted_cons (renumbered_step steps vars x) (map (renumbered_step steps vars) xs)
      ∙ ap (λ (told : Bool). cond told 1 0 + counted_steps (map (renumbered_step steps vars) xs)) (same_counted x)
      ∙ ap (λ (n : ℕ). cond (is_counted x) 1 0 + n) (counted_renumbered xs) ∙ sym (counted_cons x xs)

  lits_renumbered : (x : Step) → clause_of (renumbered_step steps vars x) ≡ map (renumbered_lit vars) (clause_of x)
  lits_renumbered (Axiom l lits) = refl
  lits_renumbered (OnDemand l lits) = refl
  lits_renumbered (Learn lits hints counted) = refl

module _ (log : Log) (goals : List ℕ) (trimmed : Trimmed) (t : IsTrimmed log goals trimmed) where
  pub counted_no_more : counted_steps trimmed.log.steps ≤ counted_steps log.steps
  counted_no_more =
      let kept = kept_of t.step_kept log.steps in
      let same = ap (λ (xs : List Step). counted_steps xs) t.steps ∙ counted_renumbered t.step_kept t.statement_kept kept in
      omega (arith, same, counted_kept t.step_kept log.steps)

  pub answers_stay : All (Contains log.answers) trimmed.log.answers
  answers_stay =
      subst (λ (xs : List (List Value)). All (Contains log.answers) xs) (sym t.answers)
      (all_placed (Contains log.answers) (kept_of t.answer_kept log.answers) (λ k x at.
      let from = kept_from t.answer_kept log.answers k x at in
      contained log.answers x (in_at log.answers from.place x from.there)))

  -- ---- statements and answers that are used

  -- a literal of a step that is reached is, renumbered, one of the step at its new place
  lit_stands : (place : ℕ) (lit : Lit) → Reaches log.steps goals place → Contains (lits_at log.steps place) lit
      → Contains (lits_at trimmed.log.steps (rank t.step_kept place)) (renumbered_lit t.statement_kept lit)
  lit_stands place lit reached is_in =
      elim ((slice_get_cases log.steps place).1) [
        | inl one ↦
            let step = one.0 in
            let there : IsIn (clause_of step) lit =
            in_contained (clause_of step) lit (subst (λ (lits : List Lit). Contains lits lit)
            (list_at clause_of log.steps place step one.2) is_in) in
            let stands = steps_keep log goals trimmed t place step reached one.2 in
            let new : lits_at trimmed.log.steps (rank t.step_kept place) ≡ map (renumbered_lit t.statement_kept) (clause_of step) =
            list_at clause_of trimmed.log.steps (rank t.step_kept place)
            (renumbered_step t.step_kept t.statement_kept step) stands ∙ lits_renumbered t.step_kept t.statement_kept step in
            subst (λ (lits : List Lit). Contains lits (renumbered_lit t.statement_kept lit)) (sym new)
            (contained (map (renumbered_lit t.statement_kept) (clause_of step)) (renumbered_lit t.statement_kept lit)
            (in_map (renumbered_lit t.statement_kept) (clause_of step) lit there))
        | inr past ↦
            let none : lits_at log.steps place ≡ [] =
            get_or_past (clauses_of log.steps) place [] (omega (arith, past.0, length-map log.steps clause_of)) in
            absurd (in_contained [] lit (subst (λ (lits : List Lit). Contains lits lit) none is_in))
      ]

  still_used : (var : ℕ) → IsUsedVar log.steps goals var
      → IsUsedVar trimmed.log.steps trimmed.goals (rank t.statement_kept var)
  still_used var used = record {
    place = rank t.step_kept used.place;
    reached = still_reached log goals trimmed t used.place used.reached;
    lit = renumbered_lit t.statement_kept used.lit;
    is_in = lit_stands used.place used.lit used.reached used.is_in;
    is_var = literal_var (rank t.statement_kept (var_of used.lit)) (is_negative used.lit)
        ∙ ap (rank t.statement_kept) used.is_var;
  }

  pub all_used : (var : ℕ) → var < length trimmed.log.statements → IsUsedVar trimmed.log.steps trimmed.goals var
  all_used var within =
      elim ((slice_get_cases trimmed.log.statements var).1) [
        | inl one ↦
            let was = changed_from (renumbered_statement t.answer_kept) t.statement_kept log.statements
            trimmed.log.statements var one.0 t.statements one.2 in
            let from = was.1 in
            subst (IsUsedVar trimmed.log.steps trimmed.goals) from.is_new
            (still_used from.place ((t.kept_statements from.place).0 from.kept))
        | inr past ↦ absurd (omega (arith, within, past.0))
      ]

  pub all_named : (tuple : ℕ) → tuple < length trimmed.log.answers → IsUsedAnswer trimmed.log trimmed.goals tuple
  all_named tuple within =
      elim ((slice_get_cases trimmed.log.answers tuple).1) [
        | inl one ↦
            let at = ap (λ (xs : List (List Value)). slice_get xs tuple) (sym t.answers) ∙ one.2 in
            let from = kept_from t.answer_kept log.answers tuple one.0 at in
            let named = (t.kept_answers from.place).0 from.kept in
            record {
              var = rank t.statement_kept named.var;
              used = still_used named.var named.used;
              names = statements_keep log goals trimmed t named.var (Answer from.place) named.used named.names
                  ∙ ap (λ (n : ℕ). Some (Answer n)) from.is_new;
            }
        | inr past ↦ absurd (omega (arith, within, past.0))
      ]
