-- The axiom of a match is put after the steps: what a search keeps stays so, and where the search demands it, it is new.
use Rattle.std.proofs.Common.{◌≡◌, ◌∙◌, ◌<◌, ◌+◌, ℕ, Bool, true, false, not, cond, if◌then◌else◌, List, [], ◌∷◌, ◌++◌, Contains, Option, Some, IfSome, get_or, length, slice_get, inr, ⊎_elim, refl, sym, ap, subst, arith}
use Rattle.std.specs.Cmp.{IsTotalOrder}
use Rattle.std.specs.Cmp.Lexicographic.{slice_cmp}
use Rattle.std.specs.Ordering.{ordering_reverse}
use Rattle.std.specs.declared.cmp.Ordering.{Ordering}
use Rattle.std.specs.declared.cmp.Ordering.TheVariants.{Less, Equal, Greater}
use Rattle.std.proofs.lemmas.List.Sums.{sum_by-append}
use Rattle.std.proofs.lemmas.Option.{slice_get-get_or, slice_get_within}
use Rattle.currency_base.specs.Literals.{is_negative, negation, var_of}
use Rattle.currency_base.specs.Values.{value_cmp}
use Rattle.currency_base.specs.declared.ids.EntId.{EntId}
use Rattle.currency_base.specs.declared.lit.Lit.{Lit}
use Rattle.currency_base.specs.declared.value.Value.{Value}
use Rattle.query_model.specs.Answers.{AreAscending}
use Rattle.query_model.specs.declared.query.Match.{Match}
use Rattle.refutation_log.specs.Counted.{IsNew, counted_steps, holds}
use Rattle.refutation_log.specs.Steps.{clauses_of, is_counted}
use Rattle.refutation_log.specs.declared.statement.Statement.{Statement}
use Rattle.refutation_log.specs.declared.statement.Statement.TheVariants as says
use Rattle.refutation_log.specs.declared.step.Label.{Label}
use Rattle.refutation_log.specs.declared.step.Label.TheVariants as label
use Rattle.refutation_log.specs.declared.step.Step.{Step}
use Rattle.refutation_log.specs.declared.step.Step.TheVariants.{OnDemand}
use Rattle.spec_model.specs.Completion.{Rankings}
use Rattle.order_literals.specs.Laws.{OneLiteral}
use Rattle.order_literals.proofs.Sayings.{Tells, negation_sign, negation_var, tells}
use Rattle.match_clauses.specs.Clauses.{AreMatchLits, IsCurrentDenied, SaysAnswer}
use Rattle.match_clauses.specs.Matched.{IsPosedAt}
use Rattle.order_adequacy.specs.Laws.{IsModelOf}
use Rattle.order_literals.specs.Numbers.{numbers_of}
use Rattle.order_literals.specs.Said.{last, positive}
use Rattle.search_logs.specs.SearchLogs.{IsMatchStep, IsSearchStep}
use Rattle.search_state.specs.States.{IsFit}
use Rattle.watch_solver.specs.Decided.{Solver, axiom_step, truth_in}
use Rattle.order_search.specs.Kept.{AreLitsFor, HasMatched, IsHeld, IsMatchFor, posed_of, search_of, vars_of}
use Rattle.order_search.specs.Searches.{IsAnswerCounter, IsMatchOf, Subject}
use Rattle.order_search.specs.Tied.{HasMatchedIn, IsAnswerVar, LieIn}
use Rattle.variable_parts.specs.Parts.{Parted}
use Rattle.order_search.proofs.Falsified.{new_demand}
use Rattle.order_search.proofs.Growing.{held_axioms, held_next, has_none, one_next}

-- ---- what is asked of a match

pub match_for : (s : Subject) (solver : Solver) (brought : List Bool) (c : Rankings) (m : Match) (answer : ℕ)
    → IsHeld s solver brought
    → IsMatchOf (search_of s solver) c m answer → IsMatchFor s c m answer
match_for s solver brought c m answer held is = record {
  query = is.query;
  is_query = is.is_query;
  completion = is.completion;
  answer_within =
      let below = slice_get_within solver.frame.answers answer is.tuple is.is_tuple in
      let many = held.search.log.as_many in
      omega (arith, below, many);
  tuple = is.tuple;
  is_match = is.is_match;
  of_wanted = is.of_wanted;
}

never_below_itself : (o : Ordering) → o ≡ ordering_reverse o → o ≡ Less → ⊥
never_below_itself Less e less = cc
never_below_itself Equal e less = cc
never_below_itself Greater e less = cc

-- of ascending tuples, none stands twice
stands_first : IsTotalOrder (slice_cmp value_cmp) → (answers : List (List Value)) → AreAscending answers →
    (answer : ℕ) (tuple : List Value)
    → slice_get answers answer ≡ Some tuple → (place : ℕ) → place < answer → slice_get answers place ≡ Some tuple → ⊥
stands_first total answers up answer tuple at place below there =
    never_below_itself (slice_cmp value_cmp tuple tuple) (total.antisymm tuple tuple) (up place answer tuple tuple below there at)

-- ---- one step more

module _ (total : IsTotalOrder (slice_cmp value_cmp)) (s : Subject) (solver : Solver) (brought : List Bool)
    (held : IsHeld s solver brought)
    (c : Rankings) (m : Match) (answer : ℕ) (is : IsMatchOf (search_of s solver) c m answer) where
  -- the literals of the axiom are judged to be it
  match_step : (lits : List Lit) → AreLitsFor s c m answer lits
      → IsMatchStep s.spec (posed_of s solver.frame) (vars_of s) (label.Match m.disjunct m.entities m.values) lits
  match_step lits are =
      let its : AreMatchLits s.spec s.wanted is.query c m answer lits = are is.query is.is_query in
      let at : IsPosedAt (posed_of s solver.frame) is.query is.tuple answer = record {
        is_query = is.is_query;
        is_tuple = is.is_tuple;
        first = stands_first total solver.frame.answers held.search.log.is_posed.ascending answer is.tuple is.is_tuple;
      } in
      record {
        disjunct = m.disjunct;
        entities = m.entities;
        values = m.values;
        is_match = refl;
        judged = its.judged (posed_of s solver.frame) is.tuple is.is_match at;
        within = its.within;
        once = its.once;
        writable = is.writable;
      }

  step_is : (counted : Bool) (lits : List Lit) (earlier : List (List Lit)) → AreLitsFor s c m answer lits
      → (counted ≡ true → IsNew earlier (OnDemand (label.Match m.disjunct m.entities m.values) lits))
      → IsSearchStep s.spec (posed_of s solver.frame) (vars_of s) earlier
      (axiom_step (label.Match m.disjunct m.entities m.values) lits counted)
      × (is_counted (axiom_step (label.Match m.disjunct m.entities m.values) lits counted) ≡ true
      → IsNew earlier (axiom_step (label.Match m.disjunct m.entities m.values) lits counted))
  step_is true lits earlier are new = (match_step lits are, λ counted. new refl)
  step_is false lits earlier are new = (inr (match_step lits are), λ counted. let no : ⊥ = cc in absurd no)

  pub held_matched : (new : Solver) (counted : Bool) → new.frame ≡ solver.frame →
      (has : HasMatched s c m answer counted solver.steps new.steps)
      → (counted ≡ true → IsNew (clauses_of solver.steps) (OnDemand (label.Match m.disjunct m.entities m.values)
      has.lits)) → IsHeld s new brought
  held_matched new counted frame has is_new =
      held_next s solver new brought held frame
      (one_next s (posed_of s solver.frame) solver.steps new.steps
      (axiom_step (label.Match m.disjunct m.entities m.values) has.lits counted) has.steps
      (step_is counted has.lits (clauses_of solver.steps) has.are_lits is_new))

-- a step more is counted or not
pub counted_one : (old new : List Step) (l : Label) (lits : List Lit) (counted : Bool) → new ≡ old
    ++ axiom_step l lits counted ∷ []
    → counted_steps new ≡ counted_steps old + (if counted then 1 else 0)
counted_one old new l lits counted e =
    let sum = sum_by-append (λ (y : Step). cond (is_counted y) 1 0) old (axiom_step l lits counted ∷ []) in
    let sums : counted_steps (old ++ axiom_step l lits counted ∷ []) ≡ counted_steps old + counted_steps
    (axiom_step l lits counted ∷ []) = sum in
    let one = one_counted counted in
    ap counted_steps e ∙ sums ∙ ap (λ (n : ℕ). counted_steps old + n) one
  where
    one_counted : (b : Bool) → counted_steps (axiom_step l lits b ∷ []) ≡ (if b then 1 else 0)
    one_counted true = refl
    one_counted false = refl

-- where nothing was put, all stays
pub held_same : (s : Subject) (solver new : Solver) (brought : List Bool) → IsHeld s solver brought
    → new.frame ≡ solver.frame → new.steps ≡ solver.steps
    → IsHeld s new brought
held_same s solver new brought held frame steps = held_axioms s solver new brought held frame
    (has_none s solver.steps new.steps steps)

-- ---- truths

-- a literal that denies a value which is current is false where the truths are those of the completion
denied_false : (s : Subject) (truths : List Bool) (c : Rankings) (lit : Lit) → IsModelOf s.spec s.wanted truths c
    → IsCurrentDenied s.spec.relations c (vars_of s) lit
    → holds (truth_in truths) lit ≡ false
denied_false s truths c lit model denied = by (get_or truths (var_of lit) false) refl
  where
    told : Tells (vars_of s) (negation lit) (last denied.rel denied.attr denied.row)
    told = ⊎_elim (λ e. tells (vars_of s) (negation lit) (last denied.rel denied.attr denied.row) e)
        (λ e. tells (vars_of s) (negation lit) (last denied.rel denied.attr denied.row) e) denied.says

    at : slice_get (vars_of s) (var_of lit) ≡ Some (says.Last denied.rel denied.attr denied.row)
    at = ap (slice_get (vars_of s)) (sym (negation_var lit)) ∙ told.at

    negative : is_negative lit ≡ true
    negative = turn (is_negative lit) (sym (negation_sign lit) ∙ told.sign)
      where
        turn : (b : Bool) → not b ≡ false → b ≡ true
        turn true e = refl
        turn false e = cc

    by : (b : Bool) → get_or truths (var_of lit) false ≡ b → holds (truth_in truths) lit ≡ false
    by true is = rw (negative, is) refl
    by false is =
        let below = slice_get_within (vars_of s) (var_of lit) (says.Last denied.rel denied.attr denied.row) at in
        let many = model.truth.per_variable in
        let there = slice_get-get_or truths (var_of lit) false (omega (arith, below, many)) ∙ ap Some is in
        absurd (model.truth.each (var_of lit) (says.Last denied.rel denied.attr denied.row) false at there denied.is_current)

-- each literal of the axiom is false where its tuple is said to be no answer
lits_false : OneLiteral → (s : Subject) (solver : Solver) (brought : List Bool) → IsHeld s solver brought →
    (c : Rankings) (m : Match) (answer : ℕ)
    (truths : List Bool) → IsAnswerCounter (search_of s solver) answer truths c → (lits : List Lit) → AreLitsFor s c m answer lits
    → IsMatchFor s c m answer → (lit : Lit) → Contains lits lit → holds (truth_in truths) lit ≡ false
lits_false one s solver brought held c m answer truths against lits are asked lit is_in =
    let its : AreMatchLits s.spec s.wanted asked.query c m answer lits = are asked.query asked.is_query in
    let goal : SaysAnswer (vars_of s) answer against.goal =
    subst (λ (statements : List Statement). SaysAnswer statements answer against.goal) held.search.log.statements against.says in
    ⊎_elim
    (λ (here : SaysAnswer (vars_of s) answer lit).
    let same : lit ≡ against.goal = one (numbers_of s.spec.relations s.wanted) lit against.goal
    (positive (says.Answer answer)) here goal in
    subst (λ (x : Lit). holds (truth_in truths) x ≡ false) (sym same) against.counter.goal_false)
    (λ (denied : IsCurrentDenied s.spec.relations c (vars_of s) lit). denied_false s truths c lit against.counter.model denied)
    (its.each lit is_in)

-- so it is new
pub demanded_new : OneLiteral → (s : Subject) (solver : Solver) (brought : List Bool) → IsHeld s solver brought →
    (c : Rankings) (m : Match) (answer : ℕ)
    (truths : List Bool) → IsAnswerCounter (search_of s solver) answer truths c → (lits : List Lit) → AreLitsFor s c m answer lits
    → IsMatchFor s c m answer → (l : Label) → IsNew (clauses_of solver.steps) (OnDemand l lits)
demanded_new one s solver brought held c m answer truths against lits are asked l =
    let its : AreMatchLits s.spec s.wanted asked.query c m answer lits = are asked.query asked.is_query in
    new_demand (truth_in truths) (clauses_of solver.steps) lits against.counter.clauses_true
    (lits_false one s solver brought held c m answer truths against lits are asked) its.has_answer.0 its.has_answer.1 l

-- ---- what is put

pub match_fit : (s : Subject) (c : Rankings) (m : Match) (answer : ℕ) → IsMatchFor s c m answer →
    (statements : List Statement) → statements ≡ vars_of s
    → (lits lent : List Lit) → AreLitsFor s c m answer lits → lent ≡ lits → IsFit (length statements) lent
match_fit s c m answer asked statements same lits lent are e =
    let its : AreMatchLits s.spec s.wanted asked.query c m answer lits = are asked.query asked.is_query in
    subst (λ (xs : List Statement). IsFit (length xs) lent) (sym same)
    (subst (IsFit (length (vars_of s))) (sym e) (record { within = its.within; once = its.once }))

put_steps : (m : Match) (counted : Bool) (lits lent : List Lit) (entities : List EntId) (values : List Value) (old new : List Step)
    → lent ≡ lits → entities ≡ m.entities → values ≡ m.values
    → new ≡ old ++ axiom_step (label.Match m.disjunct entities values) lent counted ∷ []
    → new ≡ old ++ axiom_step (label.Match m.disjunct m.entities m.values) lits counted ∷ []
put_steps m counted lits lent entities values old new same of_entities of_values e =
    e ∙ ap (λ (xs : List Lit). old ++ axiom_step (label.Match m.disjunct entities values) xs counted ∷ []) same
    ∙ ap (λ (xs : List EntId). old ++ axiom_step (label.Match m.disjunct xs values) lits counted ∷ []) of_entities
    ∙ ap (λ (xs : List Value). old ++ axiom_step (label.Match m.disjunct m.entities xs) lits counted ∷ []) of_values

-- its literals lie in a part beside the answer's, if one is told
pub match_put : (s : Subject) (p : Parted) (home : Option ℕ) (var : ℕ) (c : Rankings) (m : Match) (answer : ℕ) (counted : Bool)
    (lits lent seen : List Lit) (entities : List EntId) (values : List Value)
    (old new : List Step) → AreLitsFor s c m answer lits → lent ≡ lits → entities ≡ m.entities → values ≡ m.values
    → new ≡ old ++ axiom_step (label.Match m.disjunct entities values) lent counted ∷ [] → IsAnswerVar s answer var → seen ≡ lits
    → IfSome home (λ part. LieIn p part var seen) → HasMatchedIn s p home c m answer counted old new
match_put s p home var c m answer counted lits lent seen entities values old new are same of_entities of_values e says of_seen lie =
    record {
      matched = record {
        lits = lits;
        are_lits = are;
        steps = put_steps m counted lits lent entities values old new same of_entities of_values e;
      };
      var = var;
      says = says;
      home_is = subst (λ (xs : List Lit). IfSome home (λ part. LieIn p part var xs)) of_seen lie;
    }
