-- The log of a search is accepted, can be checked and trimmed, and is plain.
use Rattle.std.proofs.Common.{◌≡◌, ◌∙◌, ◌<◌, ◌^◌, inl, inr, ℕ, true, List, All, Some, length, take, slice_get, sym, ap, subst, arith}
use Rattle.std.proofs.lemmas.List.{length-map, length-take}
use Rattle.std.proofs.lemmas.List.Elements.{All-nil}
use Rattle.std.proofs.lemmas.Option.{slice_get_within}
use Rattle.currency_base.specs.Lists.{OnlyOnce}
use Rattle.currency_base.specs.Literals.{var_of}
use Rattle.currency_base.specs.declared.lit.Lit.{Lit}
use Rattle.currency_base.specs.declared.value.Value.{Value}
use Rattle.query_model.specs.Answers.{AreAscending}
use Rattle.spec_model.specs.Spec.{Spec}
use Rattle.refutation_log.specs.Steps.{clause_of, clauses_of}
use Rattle.refutation_log.specs.declared.log.Log.{Log}
use Rattle.refutation_log.specs.declared.statement.Statement.{Statement}
use Rattle.refutation_log.specs.declared.statement.Statement.TheVariants as says
use Rattle.refutation_log.specs.declared.step.Label.{Label}
use Rattle.refutation_log.specs.declared.step.Step.{Step}
use Rattle.refutation_log.specs.declared.step.Step.TheVariants.{Axiom, OnDemand, Learn}
use Rattle.log_checker.specs.Accepted.{IsAcceptedStep, IsAccepted}
use Rattle.refutation_log.specs.Numbered.{HasFewHints, IsNumbered}
use Rattle.log_axioms.specs.Axioms.{is_axiom}
use Rattle.log_axioms.specs.Posed.{Posed, posed_by}
use Rattle.log_trim.specs.Trimmed.{AreInPlace, hints_of}
use Rattle.refutation_log.specs.Writable.{AreAnswered, AreFew, IsWritableLabel}
use Rattle.currency_base.specs.Values.{IsValue}
use Rattle.order_limits.specs.Few.{StatementsAreFew}
use Rattle.order_literals.specs.Numbers.{numbers_of}
use Rattle.order_literals.specs.declared.wanted.Wanted.{Wanted}
use Rattle.axiom_agreement.specs.Agreement.{StepsAreAxioms}
use Rattle.order_literals.proofs.Ascents.{Ascends}
use Rattle.order_literals.proofs.Items.{IsIn, in_at}
use Rattle.order_literals.proofs.Members.{in_answer}
use Rattle.order_literals.proofs.Order.{IsBelow, statements_ascend}
use Rattle.order_literals.proofs.Sayings.{says_within}
use Rattle.search_logs.specs.SearchLogs.{variables, IsAxiomTaken, IsSearchStep, AreSearchSteps, IsSearchLog, IsWithin, HasFewSteps}
use Rattle.search_logs.proofs.Answered.{answered}
use Rattle.search_logs.proofs.Labels.{writable_label}
use Rattle.search_logs.proofs.Numbered.{IsOnRows, numbered_on}
use Rattle.search_logs.proofs.OnceLists.{all_placed, lists_at, few_numbers}
use Rattle.search_logs.proofs.Plain.{IsPlainStep, IsPlain}

-- ---- a step

lits_of_axiom : (s : Spec) (posed : Posed) (statements : List Statement) (l : Label) (lits : List Lit)
    → IsAxiomTaken s posed statements l lits
    → All (λ lit. var_of lit < length statements) lits
lits_of_axiom s posed statements l lits (inl is) k d below =
    let one = is.are_lits.each k d below in
    says_within statements _ one.said one.says
lits_of_axiom s posed statements l lits (inr is) k d below = is.within k d below

plain_axiom : (s : Spec) (posed : Posed) (statements : List Statement) (l : Label) (lits : List Lit) → IsWithin s
    → IsAxiomTaken s posed statements l lits
    → IsWritableLabel l × OnlyOnce lits
plain_axiom s posed statements l lits within (inl is) = (writable_label s within l is.clause is.is_axiom, is.are_lits.once)
plain_axiom s posed statements l lits within (inr is) = (is.writable, is.once)

judged_axiom : StepsAreAxioms → (s : Spec) (posed : Posed) (wanted : Wanted) (l : Label) (lits : List Lit) → IsWithin s
    → IsAxiomTaken s posed (variables s wanted) l lits → is_axiom s posed (variables s wanted) l lits ≡ true
judged_axiom made s posed wanted l lits within (inl is) = made s posed wanted l lits (Axiom l lits) within.specification is
judged_axiom made s posed wanted l lits within (inr is) = is.judged

module _ (s : Spec) (posed : Posed) (statements : List Statement) (earlier : List (List Lit)) where
  lits_within : (step : Step) → IsSearchStep s posed statements earlier step
      → All (λ lit. var_of lit < length statements) (clause_of step)
  lits_within (Axiom l lits) is = lits_of_axiom s posed statements l lits is
  lits_within (OnDemand l lits) is = is.within
  lits_within (Learn lits hints counted) is = is.within

  pub hints_below : (step : Step) → IsSearchStep s posed statements earlier step → All (λ hint. hint < length earlier) (hints_of step)
  hints_below (Axiom l lits) is = All-nil (λ hint. hint < length earlier)
  hints_below (OnDemand l lits) is = All-nil (λ hint. hint < length earlier)
  hints_below (Learn lits hints counted) is = is.follows.known

  hints_few : (step : Step) → length earlier < 2 ^ 32 → IsSearchStep s posed statements earlier step → HasFewHints step
  hints_few (Axiom l lits) few is = tt
  hints_few (OnDemand l lits) few is = tt
  hints_few (Learn lits hints counted) few is =
      let count = few_numbers hints (length earlier) is.lean.once is.follows.known in
      omega (arith, count, few)

  plain_step : IsWithin s → (step : Step) → IsSearchStep s posed statements earlier step → IsPlainStep step
  plain_step within (Axiom l lits) is = plain_axiom s posed statements l lits within is
  plain_step within (OnDemand l lits) is = (is.writable, is.once)
  plain_step within (Learn lits hints counted) is = (is.lits_once, is.lean.once)

accepted_step : StepsAreAxioms → (s : Spec) (posed : Posed) (wanted : Wanted) (earlier : List (List Lit))
    → IsWithin s → (step : Step)
    → IsSearchStep s posed (variables s wanted) earlier step → IsAcceptedStep s posed (variables s wanted) earlier step
accepted_step made s posed wanted earlier within (Axiom l lits) is = judged_axiom made s posed wanted l lits within is
accepted_step made s posed wanted earlier within (OnDemand l lits) is = is.judged
accepted_step made s posed wanted earlier within (Learn lits hints counted) is = is.follows

-- the steps before a place
pub earlier_count : (steps : List Step) (place : ℕ) (step : Step) → slice_get steps place ≡ Some step
    → (length (clauses_of (take place steps)) ≡ place) × (place < length steps)
earlier_count steps place step at =
    let within = slice_get_within steps place step at in
    (omega (arith, length-map (take place steps) clause_of, length-take place steps, within), within)

-- ---- the log

module _ (s : Spec) (posed : Posed) (wanted : Wanted) (log : Log) (within : IsWithin s)
    (is : IsSearchLog s posed wanted log) where
  pub accepted : StepsAreAxioms → IsAccepted s posed.query log
  accepted made place step at =
      let own : Posed = posed_by posed.query log in
      let same : posed ≡ own = ap (λ (answers : List (List Value)). let p : Posed =
      record { query = posed.query; answers = answers } in p) (sym is.answers) in
      subst (λ (p : Posed). IsAcceptedStep s p log.statements (clauses_of (take place log.steps)) step) same
      (subst (λ (statements : List Statement). IsAcceptedStep s posed statements (clauses_of (take place log.steps))
      step) (sym is.statements)
      (accepted_step made s posed wanted (clauses_of (take place log.steps)) within step (is.steps place step at)))

  searched : AreSearchSteps s posed log.statements log.steps
  searched = subst (λ (statements : List Statement). AreSearchSteps s posed statements log.steps) (sym is.statements) is.steps

  few_statements : StatementsAreFew → length log.statements < 2 ^ 31
  few_statements few =
      let many = is.as_many in
      let most = is.is_posed.few in
      subst (λ (statements : List Statement). length statements < 2 ^ 31) (sym is.statements)
      (few s wanted within.specification within.parts within.variables_few (omega (arith, many, most)))

  lits_in : (place : ℕ) (step : Step) → slice_get log.steps place ≡ Some step
      → All (λ lit. var_of lit < length log.statements) (clause_of step)
  lits_in place step at = lits_within s posed log.statements (clauses_of (take place log.steps)) step (searched place step at)

  hints_in : (place : ℕ) (step : Step) → slice_get log.steps place ≡ Some step → All (λ hint. hint < place) (hints_of step)
  hints_in place step at =
      subst (λ (n : ℕ). All (λ hint. hint < n) (hints_of step)) (earlier_count log.steps place step at).0
      (hints_below s posed log.statements (clauses_of (take place log.steps)) step (searched place step at))

  pub numbered : StatementsAreFew → HasFewSteps log → IsNumbered log.statements log.steps
  numbered few few_steps =
      let statements = few_statements few in
      record {
        within = all_placed (λ step. All (λ lit. var_of lit < length log.statements) (clause_of step)) log.steps lits_in;
        few_statements = omega (arith, statements);
        few_steps = omega (arith, few_steps);
        few_hints = all_placed HasFewHints log.steps (λ place step at.
            let count = earlier_count log.steps place step at in
            hints_few s posed log.statements (clauses_of (take place log.steps)) step
            (omega (arith, count.0, count.1, few_steps)) (searched place step at));
      }

  counted : wanted.answers ≡ length log.answers
  counted = is.as_many ∙ ap (λ (answers : List (List Value)). length answers) (sym is.answers)

  on_rows : (st : Statement) → IsIn log.statements st → IsOnRows s.relations (length log.answers) st
  on_rows st at =
      subst (λ (n : ℕ). IsOnRows s.relations n st) counted
      (numbered_on s.relations wanted st (subst (λ (statements : List Statement). IsIn statements st) is.statements at))

  pub in_place : StatementsAreFew → HasFewSteps log → (goals : List ℕ) → All (λ goal. goal < length log.steps) goals
      → AreInPlace log goals
  in_place few few_steps goals goals_in =
      record {
        goals_in = goals_in;
        hints_in = lists_at hints_of (λ place hint. hint < place) log.steps hints_in;
        vars_in = lists_at clause_of (λ place lit. var_of lit < length log.statements) log.steps lits_in;
        tuples_in = λ place tuple at. on_rows (says.Answer tuple) (in_at log.statements place (says.Answer tuple) at);
        few_steps = omega (arith, few_steps);
        few_statements = few_statements few;
        few_answers = let many = counted in let all = is.as_many in let most = is.is_posed.few in omega (arith, many, all, most);
      }

  ascends : Ascends IsBelow log.statements
  ascends = subst (λ (statements : List Statement). Ascends IsBelow statements) (sym is.statements)
      (statements_ascend (numbers_of s.relations wanted))

  -- its statements name the answers in order
  names_answers : AreAnswered 0 log.statements log.answers
  names_answers =
      answered 0 log.statements log.answers ascends
      (λ tuple at. let below = on_rows (says.Answer tuple) at in (omega arith, omega (arith, below)))
      (λ tuple low high.
      let many = counted in
      subst (λ (statements : List Statement). IsIn statements (says.Answer tuple)) (sym is.statements)
      (in_answer (numbers_of s.relations wanted) tuple (omega (arith, high, many))))

  pub plain : HasFewSteps log → IsPlain s.relations log
  plain few_steps =
      record {
        ascending = subst (λ (answers : List (List Value)). AreAscending answers) (sym is.answers) is.is_posed.ascending;
        values = subst (λ (answers : List (List Value)). All (AreFew IsValue) answers) (sym is.answers) is.is_posed.values;
        answered = names_answers;
        few_steps = few_steps;
        ascend = ascends;
        statements = on_rows;
        steps = λ place step at. plain_step s posed log.statements (clauses_of (take place log.steps)) within step
            (searched place step at);
      }
