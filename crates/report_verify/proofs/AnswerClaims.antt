-- What the units of answers of an accepted log say of the consistent completions.
use Rattle.std.proofs.Common.{◌≡◌, ◌==◌, ◌+◌, ◌⊎◌, inl, inr, ℕ, Bool, true, false, List, [], ◌∷◌, All, Option, Some, None, slice_get, refl, sym, ◌∙◌, subst}
use Rattle.std.proofs.lemmas.Bool.{and_parts, eqb-true, false≢true}
use Rattle.std.proofs.lemmas.List.Elements.{All-cons, All-head, All-nil, All-tail}
use Rattle.std.proofs.lemmas.Option.{none-some, same_Some}
use Rattle.answer_laws.specs.Answered.{IsAnswerIn}
use Rattle.answer_laws.specs.Laws.{AnswersInAreDecided, InstancesExist}
use Rattle.checked_logs.specs.Sound.{AcceptedAreTrue}
use Rattle.currency_base.specs.declared.value.Value.{Value}
use Rattle.log_axioms.specs.Axioms.{answer, same_sign, says_same}
use Rattle.log_axioms.specs.Posed.{AreAnswersOver, passing, posed_by}
use Rattle.log_axioms.specs.Truth.{ClauseHolds, HoldsIn}
use Rattle.log_checker.specs.Accepted.{IsAccepted}
use Rattle.log_units.specs.Units.{HasAnswerUnit, HasUnit}
use Rattle.query_model.specs.Answers.{IsAnswer}
use Rattle.query_model.specs.Fitting.{IsQuery}
use Rattle.query_model.specs.declared.query.Query.{Query}
use Rattle.refutation_log.specs.Steps.{clauses_of}
use Rattle.refutation_log.specs.declared.log.Log.{Log}
use Rattle.refutation_log.specs.declared.statement.Statement.{Statement}
use Rattle.refutation_log.specs.declared.statement.Statement.TheVariants as says
use Rattle.report_model.specs.declared.report.Part.TheVariants as part
use Rattle.report_verify.proofs.Claims.{IsSaid, unit_said}
use Rattle.report_verify.specs.Right.{EachConsistent}
use Rattle.report_verify.specs.Supported.{HasAnswer, IsDerived, Need, answer_needs}
use Rattle.spec_model.specs.Completion.{Rankings}
use Rattle.spec_model.specs.Consistent.{IsConsistent}
use Rattle.spec_model.specs.Facts.{IsSpecification}
use Rattle.spec_model.specs.Spec.{Spec}
use Rattle.spec_model.specs.declared.relation.Relation.{Relation}

-- ---- units

answer_said : (relations : List Relation) (c : Rankings) (answers : ℕ → Type 0) (place : ℕ) → IsSaid relations c
    answers (answer place)
    → answers place
answer_said relations c answers place is = by is.said.statement is.said.negative is.same is.holds
  where
    plain : (other : ℕ) (n : Bool) → same_sign n false ≡ true
        → HoldsIn relations c answers (record { statement = says.Answer other; negative = n }) → answers other
    plain other true sign holds = absurd (false≢true sign)
    plain other false sign holds = holds

    by : (s : Statement) (n : Bool) → says_same relations (record { statement = s; negative = n }) (answer place) ≡ true
        → HoldsIn relations c answers (record { statement = s; negative = n }) → answers place
    by (says.Answer other) n e holds =
        let parts = and_parts (other == place) (same_sign n false) e in
        subst answers (eqb-true other place parts.0) (plain other n parts.1 holds)
    by (says.Before rel attr a b) n e holds = absurd (false≢true e)
    by (says.Top rel attr row) n e holds = absurd (false≢true e)
    by (says.Last rel attr row) n e holds = absurd (false≢true e)

-- the unit of an answer: the tuple at its place is one
answer_holds : (relations : List Relation) (c : Rankings) (answers : ℕ → Type 0) (log : Log) (place : ℕ)
    → All (ClauseHolds relations c answers log.statements) (clauses_of log.steps) → HasUnit relations log
    (answer place) → answers place
answer_holds relations c answers log place all unit =
    answer_said relations c answers place (unit_said relations c answers log (answer place) all unit)

-- ---- tests of what is decided

abbrev test_of : {P : Type 0} → P ⊎ (P → ⊥) → Bool
test_of (inl p) = true
test_of (inr never) = false

passes : {P : Type 0} (d : P ⊎ (P → ⊥)) → P → test_of d ≡ true
passes (inl q) p = refl
passes (inr never) p = absurd (never p)

passed : {P : Type 0} (d : P ⊎ (P → ⊥)) → test_of d ≡ true → P
passed (inl p) e = p
passed (inr never) e = absurd (false≢true e)

-- ---- answers over a completion

-- the laws of logs and of answers
pub record AnswerLaws : Type 0 where
  pub steps : AcceptedAreTrue
  pub exist : InstancesExist
  pub decided : AnswersInAreDecided

-- the log names a tuple at a place, and it is an answer in a completion
record IsAnswerAt (relations : List Relation) (query : Query) (log : Log) (c : Rankings) (place : ℕ) : Type 0 where
  tuple : List Value
  is_tuple : slice_get log.answers place ≡ Some tuple
  is_answer : IsAnswerIn relations query tuple c

module _ (laws : AnswerLaws) (s : Spec) (facts : IsSpecification s) (log : Log) where
  -- the clauses of an accepted log are true, whatever are answers
  pub clauses_hold : (query : Option Query) → IsAccepted s query log → (c : Rankings) → IsConsistent s c
      → All (ClauseHolds s.relations c (passing (λ place. true)) log.statements) (clauses_of log.steps)
  clauses_hold query accepted c consistent =
      let own = laws.exist s.relations facts.relations.each c consistent.completion in
      laws.steps (λ place. true) s facts c consistent query log
      record { instance = own.0; is_current = own.1; complete = λ q place tuple asked named is. refl } accepted

  module _ (query : Query) (is_query : IsQuery query) (accepted : IsAccepted s (Some query) log) where
    abbrev At : Rankings → ℕ → Type 0
    At c place = IsAnswerAt s.relations query log c place

    decided_at : (c : Rankings) → IsConsistent s c → (place : ℕ) → At c place ⊎ (At c place → ⊥)
    decided_at c consistent place = by (slice_get log.answers place) refl
      where
        of_tuple : (tuple : List Value) → slice_get log.answers place ≡ Some tuple
            → IsAnswerIn s.relations query tuple c ⊎ (IsAnswerIn s.relations query tuple c → ⊥) → At c place ⊎ (At c place → ⊥)
        of_tuple tuple at (inl is) = inl record { tuple = tuple; is_tuple = at; is_answer = is }
        of_tuple tuple at (inr never) =
            inr (λ is. never (subst (λ t. IsAnswerIn s.relations query t c)
            (same_Some is.tuple tuple (sym is.is_tuple ∙ at)) is.is_answer))

        by : (o : Option (List Value)) → slice_get log.answers place ≡ o → At c place ⊎ (At c place → ⊥)
        by None at = inr (λ is. none-some is.tuple (sym at ∙ is.is_tuple))
        by (Some tuple) at =
            of_tuple tuple at (laws.decided s.relations facts.relations.each c consistent.completion query is_query tuple)

    -- a tuple with its unit is an answer in every consistent completion
    answer_is : (tuple : List Value) → HasAnswerUnit s.relations log tuple → EachConsistent s (IsAnswerIn s.relations query tuple)
    answer_is tuple unit c consistent =
        let here = passed (decided_at c consistent unit.place)
        (answer_holds s.relations c (passing test) log unit.place (laws.steps test s facts c consistent (Some query)
        log over accepted) unit.unit) in
        subst (λ t. IsAnswerIn s.relations query t c)
        (same_Some here.tuple tuple (sym here.is_tuple ∙ unit.is_tuple)) here.is_answer
      where
        test : ℕ → Bool
        test place = test_of (decided_at c consistent place)

        over : AreAnswersOver s.relations (posed_by (Some query) log) c (passing test)
        over =
            let own = laws.exist s.relations facts.relations.each c consistent.completion in
            record {
              instance = own.0;
              is_current = own.1;
              complete = λ q place t asked named is.
                  passes (decided_at c consistent place)
                  record {
                    tuple = t;
                    is_tuple = named;
                    is_answer = record {
                      instance = own.0;
                      is_current = own.1;
                      is_answer = subst (λ p. IsAnswer p own.0 t) (sym (same_Some query q asked)) is;
                    };
                  };
            }

    pub answers_are : (at : ℕ) (tuples : List (List Value)) → All (IsDerived s.relations log) (answer_needs at tuples)
        → All (λ tuple. EachConsistent s (IsAnswerIn s.relations query tuple)) tuples
    answers_are at [] derived = All-nil (λ tuple. EachConsistent s (IsAnswerIn s.relations query tuple))
    answers_are at (tuple ∷ tuples) derived =
        let need : Need = record { part = part.Item at; claim = HasAnswer tuple } in
        All-cons (λ t. EachConsistent s (IsAnswerIn s.relations query t)) tuple tuples
        (answer_is tuple (All-head (IsDerived s.relations log) need (answer_needs (at + 1) tuples) derived))
        (answers_are (at + 1) tuples (All-tail (IsDerived s.relations log) need (answer_needs (at + 1) tuples) derived))
