use Rattle.std.proofs.Common.{◌≡◌, ◌∙◌, ℕ, List, All, IfOk, ap, length, map, subst, sym}
use Rattle.answer_candidates.specs.Candidates.{left_of, left_tuples, tuples_at}
use Rattle.currency_base.specs.declared.value.Value.{Value}
use Rattle.report_model.specs.declared.verdict.Verdict.TheVariants as verdict
use Rattle.report_verify.specs.Supported.{IsOneOf, answer_needs}
use Rattle.report_model.specs.Writable.{IsWritableVerdict}
use Rattle.spec_model.specs.Spec.{Spec}
use Rattle.spec_model.specs.declared.question.Question.TheVariants as asked
use Rattle.currency_ask.specs.Answering.{AreUnitsAt, IsProvedAt}
use Rattle.currency_ask.specs.Goals.{AreClaims, AreProved, IsGoalOn}
use Rattle.currency_ask.specs.Reported.{IsListedFor, IsReported}
use Rattle.currency_ask.specs.declared.goal.Goal.{Goal}
use Rattle.currency_ask.specs.declared.goal.Goal.TheVariants.{Answer}
use Rattle.currency_ask.proofs.LeftAnswers.{AreDecided, answers_ascend, answers_listed, answers_written, claims_are, goals_on, left_are_proved, left_within, units_are}
use Rattle.currency_ask.proofs.Searched.{search_for_answers}
use Rattle.currency_ask.proofs.answers.reported.Goals as goal

pub tuples_at-requires : goal.tuples_at-requires
tuples_at-requires c = left_within c.args.candidates (length c.args.candidates.tuples) c.in-Ok.left
    c.requires.candidates.per_tuple c.in-Ok.ensures

pub units_at-requires : goal.units_at-requires
units_at-requires c =
    let are : AreDecided c.args.search c.args.spec.now c.args.query.now c.args.candidates c.args.decisions.now = record {
      search_is = c.is_search.ensures;
      spec = c.requires.search.spec;
      posed = c.requires.posed;
      candidates = c.requires.candidates;
      decided = c.requires.decided;
    } in
    subst (All (IsProvedAt c.args.decisions.now)) (sym c.in-Ok.ensures)
    (left_are_proved c.args.search c.args.spec.now c.args.query.now c.args.candidates c.args.decisions.now are)

pub derived-requires-clause-goals : goal.derived-requires-clause-goals
derived-requires-clause-goals c =
    let are : AreDecided c.args.search c.args.spec.now c.args.query.now c.args.candidates c.args.decisions.now = record {
      search_is = c.is_search.ensures;
      spec = c.requires.search.spec;
      posed = c.requires.posed;
      candidates = c.requires.candidates;
      decided = c.requires.decided;
    } in
    subst (All (IsGoalOn c.args.search.spec c.args.search.wanted))
    (sym (c.in-Ok-goals_of.ensures ∙ ap (map Answer) c.in-Ok.ensures))
    (goals_on c.args.search c.args.spec.now c.args.query.now c.args.candidates c.args.decisions.now are)

pub derived-requires-clause-proved : goal.derived-requires-clause-proved
derived-requires-clause-proved c =
    let are : AreDecided c.args.search c.args.spec.now c.args.query.now c.args.candidates c.args.decisions.now = record {
      search_is = c.is_search.ensures;
      spec = c.requires.search.spec;
      posed = c.requires.posed;
      candidates = c.requires.candidates;
      decided = c.requires.decided;
    } in
    subst (λ (gs : List Goal). AreProved c.args.search gs c.in-Ok-units_at.units)
    (sym (c.in-Ok-goals_of.ensures ∙ ap (map Answer) c.in-Ok.ensures))
    (units_are c.args.search c.args.spec.now c.args.query.now c.args.candidates c.args.decisions.now are c.in-Ok-units_at.units
    (subst (λ (places : List ℕ). AreUnitsAt c.args.decisions.now places (length places) c.in-Ok-units_at.units)
    c.in-Ok.ensures c.in-Ok-units_at.ensures))

pub derived-requires-clause-writable : goal.derived-requires-clause-writable
derived-requires-clause-writable c =
    let are : AreDecided c.args.search c.args.spec.now c.args.query.now c.args.candidates c.args.decisions.now = record {
      search_is = c.is_search.ensures;
      spec = c.requires.search.spec;
      posed = c.requires.posed;
      candidates = c.requires.candidates;
      decided = c.requires.decided;
    } in
    subst (λ (ts : List (List Value)). IsWritableVerdict c.args.search.spec.relations (verdict.Answers ts))
    (sym (c.in-Ok-tuples_at.ensures ∙ ap (tuples_at c.args.candidates.tuples) c.in-Ok.ensures))
    (answers_written c.args.search c.args.spec.now c.args.query.now c.args.candidates c.args.decisions.now are)

pub returns : goal.returns
returns c = λ budget within.
    let s = c.args.spec.now in
    let query = c.args.query.now in
    let search = c.args.search in
    let standing = c.args.candidates in
    let are : AreDecided c.args.search c.args.spec.now c.args.query.now c.args.candidates c.args.decisions.now = record {
      search_is = c.is_search.ensures;
      spec = c.requires.search.spec;
      posed = c.requires.posed;
      candidates = c.requires.candidates;
      decided = c.requires.decided;
    } in
    let goals : c.in-Ok-goals_of.goals ≡ map Answer (left_of standing.gone) = c.in-Ok-goals_of.ensures
    ∙ ap (map Answer) c.in-Ok.ensures in
    let tuples : c.in-Ok-tuples_at.tuples ≡ left_tuples standing = c.in-Ok-tuples_at.ensures
    ∙ ap (tuples_at standing.tuples) c.in-Ok.ensures in
    let one_of = subst (λ (ts : List (List Value)). IsOneOf search.spec (asked.Answers query) (verdict.Answers ts)) (sym tuples)
    (answers_ascend search s query standing c.args.decisions.now are c.left_are_common.ensures) in
    let claims = subst (λ (gs : List Goal). AreClaims search.spec search.posed gs
    (answer_needs 0 c.in-Ok-tuples_at.tuples)) (sym goals)
    (subst (λ (ts : List (List Value)). AreClaims search.spec search.posed (map Answer (left_of standing.gone))
    (answer_needs 0 ts)) (sym tuples)
    (claims_are search s query standing c.args.decisions.now are)) in
    let completions = c.into_completions-completions.result in
    let listed = subst (λ (ts : List (List Value)). IsListedFor search.spec (asked.Answers query)
    (verdict.Answers ts) completions) (sym tuples)
    (answers_listed search s query standing c.args.decisions.now are c.left_are_common.ensures completions
    c.into_completions-completions.ensures) in
    subst (λ (x : Spec). IfOk c.derived.result (IsReported x (asked.Answers query) budget)) c.requires.search.spec
    (c.derived.ensures (asked.Answers query) budget (search_for_answers s query standing.tuples search
    c.requires.search c.requires.posed c.requires.over) within one_of
    claims listed)
