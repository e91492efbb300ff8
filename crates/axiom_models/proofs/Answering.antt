-- What has the axiom of a match is an answer; and which answers assignments say.
use Rattle.std.proofs.Common.{◌≡◌, ◌∙◌, ◌==◌, ℕ, Bool, true, false, not, List, Some, slice_get, refl, sym, ap, subst, ⊎_elim}
use Rattle.std.proofs.lemmas.Bool.{cases_eq, eq-eqb, false≢true, ne_eqb, not_from_false}
use Rattle.std.proofs.lemmas.Option.{same_Some}
use Rattle.currency_base.specs.Literals.{literal}
use Rattle.currency_base.specs.declared.value.Value.{Value}
use Rattle.query_model.specs.Answers.{IsAnswer}
use Rattle.query_model.specs.declared.query.Query.{Query}
use Rattle.spec_model.specs.Completion.{Rankings}
use Rattle.spec_model.specs.Consistent.{IsConsistent}
use Rattle.spec_model.specs.Current.{IsCurrentInstance}
use Rattle.spec_model.specs.Facts.{IsSpecification}
use Rattle.spec_model.specs.Spec.{Spec}
use Rattle.refutation_log.specs.declared.statement.Statement.TheVariants as says
use Rattle.refutation_log.specs.declared.step.Label.TheVariants as label
use Rattle.answer_laws.specs.Answered.{IsAnswerIn}
use Rattle.answer_laws.specs.Laws.{AnswersInAreDecided, InstancesExist}
use Rattle.log_axioms.specs.Posed.{AreAnswersOver, Posed}
use Rattle.order_literals.proofs.Deciding.{literals_exclude, said_exclude}
use Rattle.order_literals.proofs.Items.{place_of}
use Rattle.order_literals.proofs.Members.{in_answer}
use Rattle.order_literals.proofs.Sayings.{says_at}
use Rattle.order_literals.specs.Numbers.{numbers_of}
use Rattle.order_literals.specs.Said.{IsSaidTrue, positive}
use Rattle.order_literals.specs.Truth.{IsTruth}
use Rattle.order_literals.specs.declared.wanted.Wanted.{Wanted}
use Rattle.match_clauses.specs.Clauses.{IsCurrentDenied, SaysAnswer}
use Rattle.order_adequacy.proofs.Adequacy as adequacy
use Rattle.order_adequacy.proofs.OrderAxioms.{RulesByInstances}
use Rattle.order_adequacy.proofs.Orders.{IsCase}
use Rattle.order_adequacy.proofs.Saids.{said_true}
use Rattle.order_adequacy.specs.Laws.{said_answers, variables}
use Rattle.axiom_models.specs.Matches.{AnswersAreSaid, AnswersHaveMatches, AxiomsMakeAnswers, CertainAnswersAreSaid, IsAskedAt, MatchesAreTrue, OthersAreDenied, SaidAnswersAreCertain, no_answer}
use Rattle.axiom_models.proofs.Judged.{answer_told, clause_true, denied_fails, lit_holds, match_holds}
use Rattle.axiom_models.proofs.Models.{assignments_are_completions, makes_true, model_of_one, own_answers}

-- ---- what has the axiom of a match

-- the tuple at a place is an answer over an instance
abbrev AnswersAt : Posed → Query → List (List (List Value)) → ℕ → Type 0
AnswersAt posed query instance place =
    (t : List Value) × (slice_get posed.answers place ≡ Some t) × IsAnswer query instance t

pub axioms_make_answers : AxiomsMakeAnswers
axioms_make_answers s wanted posed query c completion instance is_current tuple answer asked m has =
    let answers = AnswersAt posed query instance in
    let over : AreAnswersOver s.relations posed c answers = record {
      instance = instance;
      is_current = is_current;
      complete = λ q place t posed_is at is. (
        t,
        at,
        subst (λ (x : Query). IsAnswer x instance t)
            (same_Some q query (sym posed_is ∙ asked.posed_at.is_query)) is,
      );
    } in
    let one = match_holds s posed c answers completion over (variables s wanted) m.disjunct m.entities m.values has.lits
    has.is_axiom in
    ⊎_elim
    (λ (told : SaysAnswer (variables s wanted) answer one.lit).
    let found : AnswersAt posed query instance answer = lit_holds s.relations c answers (variables s wanted) one.lit
    (positive (says.Answer answer)) (answer_told (variables s wanted) answer one.lit told) one.is_true in
    subst (IsAnswer query instance) (same_Some found.0 tuple (sym found.1 ∙ asked.posed_at.is_tuple)) found.2)
    (λ (denied : IsCurrentDenied s.relations c (variables s wanted) one.lit).
    absurd (denied_fails s.relations c answers (variables s wanted) one.lit denied one.is_true))
    (has.others one.lit one.is_in)

-- ---- which answers assignments say

pub answers_are_said : AnswersHaveMatches → AnswersAreSaid
answers_are_said have s wanted posed query facts truths matches c model instance is_current tuple answer asked is =
    let found = have s wanted posed query facts c model.consistent.completion instance is_current tuple answer asked is in
    let m = found.0 in
    let has = found.2 in
    let case : IsCase s.relations c = record { facts = facts.relations; completion = model.consistent.completion } in
    let one = matches m.disjunct m.entities m.values has.lits has.is_axiom in
    ⊎_elim
    (λ (told : SaysAnswer (variables s wanted) answer one.lit).
    let r : IsSaidTrue (variables s wanted) truths (positive (says.Answer answer)) =
    record { lit = one.lit; says = told; is_true = one.is_true } in r)
    (λ (denied : IsCurrentDenied s.relations c (variables s wanted) one.lit).
    absurd (literals_exclude truths one.lit one.is_true
    (said_true s wanted c (said_answers s wanted truths) truths _ (says.Last denied.rel denied.attr denied.row) false case
    model.truth denied.says denied.is_current)))
    (has.others one.lit one.is_in)

module _ (s : Spec) (wanted : Wanted) (posed : Posed) (query : Query) (facts : IsSpecification s) (c : Rankings)
    (consistent : IsConsistent s c) (instance : List (List (List Value))) (is_current : IsCurrentInstance s.relations c instance)
    (tuple : List Value) (answer : ℕ) (asked : IsAskedAt wanted posed query tuple answer)
    (none : IsAnswer query instance tuple → ⊥) where
  -- all tuples but this one
  abbrev all_but : ℕ → Bool
  all_but place = not (place == answer)

  abbrev Others : ℕ → Type 0
  Others place = all_but place ≡ true

  over_others : AreAnswersOver s.relations posed c Others
  over_others = record {
    instance = instance;
    is_current = is_current;
    complete = λ q place t posed_is at is.
        ⊎_elim
        (λ (same : place ≡ answer).
        let one : t ≡ tuple =
        same_Some t tuple (sym at ∙ ap (slice_get posed.answers) same ∙ asked.posed_at.is_tuple) in
        absurd (none (subst (IsAnswer query instance) one (subst (λ (x : Query). IsAnswer x instance t)
        (same_Some q query (sym posed_is ∙ asked.posed_at.is_query)) is))))
        (λ (differ : place ≡ answer → ⊥). not_from_false (place == answer) (ne_eqb place answer differ))
        (cases_eq place answer);
  }

  case_is : IsCase s.relations c
  case_is = record { facts = facts.relations; completion = consistent.completion }

  pub matches_true : (truths : List Bool) → IsTruth s.relations c Others (variables s wanted) truths
      → MatchesAreTrue s wanted posed truths
  matches_true truths truth disjunct entities values lits is =
      clause_true s wanted posed c Others truths case_is truth (label.Match disjunct entities values) lits is
      (match_holds s posed c Others consistent.completion over_others (variables s wanted) disjunct entities values lits is)

  pub denied_true : (truths : List Bool) → IsTruth s.relations c Others (variables s wanted) truths
      → IsSaidTrue (variables s wanted) truths (no_answer answer)
  denied_true truths truth =
      let n = numbers_of s.relations wanted in
      let there = place_of (variables s wanted) (says.Answer answer) (in_answer n answer asked.within) in
      let told = says_at (variables s wanted) there.0 (no_answer answer) there.1 in
      record {
        lit = literal there.0 true;
        says = told;
        is_true = said_true s wanted c Others truths (literal there.0 true) (says.Answer answer) true case_is truth told
            (λ h. false≢true (sym (ap not (eq-eqb answer answer refl)) ∙ h));
      }

pub others_are_denied : RulesByInstances → OthersAreDenied
others_are_denied by_instances s wanted posed query facts axioms are c consistent instance is_current tuple answer asked none =
    let test : ℕ → Bool = λ place. not (place == answer) in
    let there = adequacy.truths_are_there test s.relations c (variables s wanted) in
    let answers : ℕ → Type 0 = λ place. test place ≡ true in (
      there.0,
      makes_true by_instances answers s wanted facts axioms are c consistent there.0 there.1,
      matches_true s wanted posed query facts c consistent instance is_current tuple answer asked none there.0 there.1,
      model_of_one s wanted facts there.0 c
          (record { consistent = consistent; truth = own_answers s wanted c answers there.0 there.1 }),
      denied_true s wanted posed query facts c consistent instance is_current tuple answer asked none there.0 there.1,
    )

-- ---- certain answers

pub certain_answers_are_said : RulesByInstances → AnswersAreSaid → CertainAnswersAreSaid
certain_answers_are_said by_instances are_said s wanted posed query facts axioms are tuple answer asked certain truths
    makes matches =
    let found = assignments_are_completions by_instances s wanted facts axioms are truths makes in
    let model = found.1.model in
    let over = certain found.0 model.consistent in
    are_said s wanted posed query facts truths matches found.0 model over.instance over.is_current tuple answer asked
    over.is_answer

pub said_answers_are_certain : RulesByInstances → InstancesExist → AnswersInAreDecided → SaidAnswersAreCertain
said_answers_are_certain by_instances exist decide s wanted posed query facts fits axioms are tuple answer asked
    said c consistent =
    ⊎_elim
    (λ (over : IsAnswerIn s.relations query tuple c). over)
    (λ (none : IsAnswerIn s.relations query tuple c → ⊥).
    let instance = exist s.relations facts.relations.each c consistent.completion in
    let other = others_are_denied by_instances s wanted posed query facts axioms are c consistent instance.0 instance.1 tuple
    answer asked (λ is. none (record { instance = instance.0; is_current = instance.1; is_answer = is })) in
    absurd (said_exclude (numbers_of s.relations wanted) other.0 (positive (says.Answer answer))
    (said other.0 other.1 other.2) other.4))
    (decide s.relations facts.relations.each c consistent.completion query fits tuple)
