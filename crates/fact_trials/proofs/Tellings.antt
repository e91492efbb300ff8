-- What each verdict tells of a fact.
use Rattle.std.proofs.Common.{◌≡◌, ◌≢◌, ◌∙◌, ◌<◌, ℕ, true, List, [], ◌∷◌, All, Contains, Option, Some, None, Result, Ok, Err, IfOk, IfSome, IfNone, length, refl, sym, ap, subst, arith}
use Rattle.std.proofs.lemmas.List.Elements.{All-contains, All-head, All-weaker}
use Rattle.std.proofs.lemmas.Option.{same_Some}
use Rattle.answer_laws.specs.Answered.{IsAnswerIn}
use Rattle.currency_base.specs.declared.value.Value.{Value}
use Rattle.query_model.specs.Fitting.{IsQuery}
use Rattle.query_model.specs.declared.query.Query.{Query}
use Rattle.report_model.specs.Verdicts.{is_decided, kind_of}
use Rattle.report_model.specs.declared.report.Report.{Report}
use Rattle.report_model.specs.declared.verdict.Verdict.{Verdict}
use Rattle.report_model.specs.declared.verdict.Verdict.TheVariants as verdict
use Rattle.report_verify.specs.Asked.{query_of}
use Rattle.report_verify.specs.Right.{EachConsistent, IsRight, PairHolds}
use Rattle.report_verify.specs.Supported.{FailsInOne, IsOneOf, IsSupported}
use Rattle.spec_model.specs.Completion.{Rankings, IsCompletion}
use Rattle.spec_model.specs.Consistent.{IsConsistent}
use Rattle.spec_model.specs.Questions.{IsQuestionOn}
use Rattle.spec_model.specs.Spec.{Spec}
use Rattle.spec_model.specs.declared.question.Asked.{Asked}
use Rattle.spec_model.specs.declared.question.Question.{Question}
use Rattle.spec_model.specs.declared.question.Question.TheVariants as asked
use Rattle.unit_questions.specs.Facts.{FactHolds, IsFactQuestion, IsOfFact}
use Rattle.fact_trials.specs.Failing.{AreAnswersOf, IsTelling, IsWithoutAt, LacksAt, TellsPlace}
use Rattle.fact_trials.proofs.Headless.{is_empty}
use Rattle.fact_trials.proofs.Lists.{alone, item_at, item_has}

-- ---- what a report's verdict has

right_of : (s : Spec) (q : Question) (report : Report) → IsTelling s q report → (v : Verdict) → report.verdict ≡ v
    → is_decided (kind_of v) ≡ true → IsRight s q v
right_of s q report telling v is decided =
    subst (IsRight s q) is (telling.right (subst (λ (x : Verdict). is_decided (kind_of x) ≡ true) (sym is) decided))

one_of : (s : Spec) (q : Question) (report : Report) → IsTelling s q report → (v : Verdict) → report.verdict ≡ v → IsOneOf s q v
one_of s q report telling v is = subst (IsOneOf s q) is telling.shown.sound.one_of

supported_of : (s : Spec) (q : Question) (report : Report) → IsTelling s q report → (v : Verdict) → report.verdict ≡ v
    → IsSupported s q v report.completions report.log
supported_of s q report telling v is =
    subst (λ (x : Verdict). IsSupported s q x report.completions report.log) is telling.shown.supported

-- ---- it holds

pub inconsistent_holds : (s : Spec) (q : Question) (report : Report) → IsTelling s q report
    → report.verdict ≡ verdict.Inconsistent → EachConsistent s (FactHolds s.relations q)
inconsistent_holds s q report telling is =
    λ c consistent. absurd (right_of s q report telling verdict.Inconsistent is refl (c, consistent))

certain_holds_by : (s : Spec) (q : Question) → IsRight s q verdict.Certain → EachConsistent s (FactHolds s.relations q)
certain_holds_by s asked.Consistent right = absurd right
certain_holds_by s (asked.Certain pairs) right =
    λ c consistent.
    All-weaker (λ (p : Asked). EachConsistent s (PairHolds p)) (λ (p : Asked). PairHolds p c) (λ p each. each c consistent)
    pairs right.1
certain_holds_by s (asked.Same rels) right = absurd right
certain_holds_by s (asked.Answers query) right = absurd right

pub certain_holds : (s : Spec) (q : Question) (report : Report) → IsTelling s q report → report.verdict ≡ verdict.Certain
    → EachConsistent s (FactHolds s.relations q)
certain_holds s q report telling is = certain_holds_by s q (right_of s q report telling verdict.Certain is refl)

-- ---- it fails

first_fails : (s : Spec) (q : Question) (completions : List Rankings) → completions ≢ [] → All (IsConsistent s) completions
    → ((c : Rankings) → Contains completions c → FactHolds s.relations q c → ⊥) → IsWithoutAt s q completions 0
first_fails s q [] some consistent fails = absurd (some refl)
first_fails s q (c ∷ more) some consistent fails =
    record {
      completion = c;
      is_there = refl;
      without = record {
        consistent = All-head (IsConsistent s) c more consistent;
        fails = fails c (0, omega arith, refl);
      };
    }

nothing_holds : (s : Spec) (q : Question) → IsOneOf s q verdict.Consistent → (c : Rankings) → FactHolds s.relations q c → ⊥
nothing_holds s asked.Consistent one c holds = holds
nothing_holds s (asked.Certain pairs) one c holds = one
nothing_holds s (asked.Same rels) one c holds = one
nothing_holds s (asked.Answers query) one c holds = one

pub consistent_fails : (s : Spec) (q : Question) (report : Report) → IsTelling s q report → report.verdict ≡ verdict.Consistent
    → IsWithoutAt s q report.completions 0
consistent_fails s q report telling is =
    first_fails s q report.completions (supported_of s q report telling verdict.Consistent is) telling.shown.sound.consistent
    (λ c listed. nothing_holds s q (one_of s q report telling verdict.Consistent is) c)

pair_fails : (s : Spec) (q : Question) (p : Asked) → IsOneOf s q (verdict.NotCertain p) → (c : Rankings) → (PairHolds p c → ⊥)
    → FactHolds s.relations q c → ⊥
pair_fails s asked.Consistent p one c fails holds = one
pair_fails s (asked.Certain pairs) p one c fails holds = fails (All-contains (λ (o : Asked). PairHolds o c) pairs p holds one)
pair_fails s (asked.Same rels) p one c fails holds = one
pair_fails s (asked.Answers query) p one c fails holds = one

one_fails : (s : Spec) (q : Question) (p : Asked) (completions : List Rankings) → IsOneOf s q (verdict.NotCertain p)
    → length completions ≡ 1 → All (IsConsistent s) completions → FailsInOne p completions → IsWithoutAt s q completions 0
one_fails s q p [] one many consistent in_one = absurd (omega (arith, many))
one_fails s q p (c ∷ []) one many consistent in_one =
    record {
      completion = c;
      is_there = refl;
      without = record {
        consistent = All-head (IsConsistent s) c [] consistent;
        fails = pair_fails s q p one c
            (λ holds. in_one.fails (subst (PairHolds p) (alone c in_one.rankings in_one.listed) holds));
      };
    }
one_fails s q p (c ∷ d ∷ more) one many consistent in_one = absurd (omega (arith, many))

pub not_certain_fails : (s : Spec) (q : Question) (report : Report) → IsTelling s q report → (p : Asked)
    → report.verdict ≡ verdict.NotCertain p → IsWithoutAt s q report.completions 0
not_certain_fails s q report telling p is =
    one_fails s q p report.completions (one_of s q report telling (verdict.NotCertain p) is) (telling.one p is)
    telling.shown.sound.consistent (supported_of s q report telling (verdict.NotCertain p) is)

-- ---- answers

answers_by : (s : Spec) (q : Question) (tuples : List (List Value)) (report : Report) → IsRight s q (verdict.Answers tuples)
    → IsSupported s q (verdict.Answers tuples) report.completions report.log → All (IsConsistent s) report.completions
    → AreAnswersOf s q tuples report.completions
answers_by s asked.Consistent tuples report right supported consistent = absurd right
answers_by s (asked.Certain pairs) tuples report right supported consistent = absurd right
answers_by s (asked.Same rels) tuples report right supported consistent = absurd right
answers_by s (asked.Answers query) tuples report right supported consistent =
    record {
      query = query;
      is_query = refl;
      satisfiable = right.0;
      certain = right.1;
      common = supported.2;
      consistent = consistent;
    }

pub answers_of : (s : Spec) (q : Question) (report : Report) → IsTelling s q report → (tuples : List (List Value))
    → report.verdict ≡ verdict.Answers tuples → AreAnswersOf s q tuples report.completions
answers_of s q report telling tuples is =
    answers_by s q tuples report (right_of s q report telling (verdict.Answers tuples) is refl)
    (supported_of s q report telling (verdict.Answers tuples) is) telling.shown.sound.consistent

pub answered_holds : (s : Spec) (q : Question) (tuples : List (List Value)) (completions : List Rankings)
    → IsFactQuestion s.relations q → AreAnswersOf s q tuples completions → 0 < length tuples
    → EachConsistent s (FactHolds s.relations q)
answered_holds s q tuples completions fact answers some =
    let query = answers.query in
    let first = item_at tuples 0 some in
    let each : EachConsistent s (IsAnswerIn s.relations query first.0) =
    item_has (λ (tuple : List Value). EachConsistent s (IsAnswerIn s.relations query tuple)) tuples answers.certain.each 0 first.0
    first.1 in
    let one = each answers.satisfiable.0 answers.satisfiable.1 in
    let empty : first.0 ≡ [] =
    is_empty query (subst IsOfFact answers.is_query fact.of_fact) one.instance first.0 one.is_answer in
    subst (λ (x : Question). EachConsistent s (FactHolds s.relations x)) (sym answers.is_query)
    (subst (λ (tuple : List Value). EachConsistent s (IsAnswerIn s.relations query tuple)) empty each)

pub query_is : (s : Spec) (q : Question) → IsFactQuestion s.relations q → (query : Query) → q ≡ asked.Answers query
    → IsQuery query
query_is s q fact query is =
    let on = subst (IsQuestionOn s.relations) is fact.on in
    on.is_query

pub are_completions : (s : Spec) (completions : List Rankings) → All (IsConsistent s) completions
    → All (IsCompletion s.relations) completions
are_completions s completions all =
    All-weaker (IsConsistent s) (IsCompletion s.relations) (λ c consistent. consistent.completion) completions all

-- a completion over which the empty tuple is no answer is one in which the fact fails
lacks_fails : (s : Spec) (q : Question) (completions : List Rankings) (query : Query) → q ≡ asked.Answers query
    → All (IsConsistent s) completions → (place : ℕ) → LacksAt s.relations query completions place
    → IsWithoutAt s q completions place
lacks_fails s q completions query is consistent place lacking =
    record {
      completion = lacking.completion;
      is_there = lacking.is_there;
      without = record {
        consistent = item_has (IsConsistent s) completions consistent place lacking.completion lacking.is_there;
        fails = λ holds. lacking.lacks (subst (λ (x : Question). FactHolds s.relations x lacking.completion) is holds);
      };
    }

-- and where no tuple is an answer over each of the completions, there is one
some_lacks : (s : Spec) (q : Question) (tuples : List (List Value)) (completions : List Rankings)
    → AreAnswersOf s q tuples completions → (0 < length tuples → ⊥) → (query : Query) → q ≡ asked.Answers query
    → All (IsAnswerIn s.relations query []) completions → ⊥
some_lacks s q tuples completions answers none query is all =
    let same : query ≡ answers.query = same_Some query answers.query (ap query_of (sym is ∙ answers.is_query)) in
    let listed = answers.common.all []
    (subst (λ (x : Query). All (IsAnswerIn s.relations x []) completions) same all) in
    none (omega (arith, listed.1))

pub tells_place : {E : Type 0} (s : Spec) (q : Question) (tuples : List (List Value)) (completions : List Rankings)
    → AreAnswersOf s q tuples completions → (0 < length tuples → ⊥) → (query : Query) → q ≡ asked.Answers query
    → (r : Result (Option ℕ) E) → IfOk r (λ found. IfSome found (LacksAt s.relations query completions))
    → IfOk r (λ found. IfNone found (All (IsAnswerIn s.relations query []) completions)) → IfOk r (TellsPlace s q completions)
tells_place s q tuples completions answers none query is (Ok None) lacks all =
    absurd (some_lacks s q tuples completions answers none query is all)
tells_place s q tuples completions answers none query is (Ok (Some place)) lacks all =
    lacks_fails s q completions query is answers.consistent place lacks
tells_place s q tuples completions answers none query is (Err e) lacks all = tt
