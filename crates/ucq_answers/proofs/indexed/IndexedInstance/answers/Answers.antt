use Rattle.std.proofs.Common.{◌<◌, ◌≤◌, ◌∙◌, List, ap, arith, length, subst, sym}
use Rattle.currency_base.specs.declared.value.Value.{Value}
use Rattle.query_model.specs.Answers.{AreAnswers}
use Rattle.query_model.specs.declared.query.Disjunct.{Disjunct}
use Rattle.ucq_answers.specs.Found.{Adds, IsAnswerOf}
use Rattle.ucq_answers.specs.Kept.{disjuncts_of}
use Rattle.ucq_answers.specs.Planned.{IndexedQuery}
use Rattle.ucq_answers.proofs.Union.{answers_are, answers_more}
use Rattle.ucq_answers.proofs.indexed.IndexedInstance.answers.Goals as goal

pub returns-then-len-at_most-clause-more : goal.returns-then-len-at_most-clause-more
returns-then-len-at_most-clause-more c =
    let own = c.args.self.now in
    let old = c.new-answers.result in
    let new = c.collect_all.new.answers in
    let full = c.in_ok-collect_all.field-0 in
    let relations = c.deref.ensures.value ∙ ap (λ (i : IndexedQuery). i.instance) c.self.view_is in
    let disjuncts = ap disjuncts_of c.deref-2.ensures.value ∙ ap (λ (i : IndexedQuery). i.query.disjuncts) c.self.view_is in
    let adds = subst (λ (l : List Disjunct). Adds (IsAnswerOf l own.instance) old new full) disjuncts
    (subst (λ (r : List (List (List Value))). Adds (IsAnswerOf (disjuncts_of c.deref-2.result.now) r) old new full) relations
    c.in_ok-collect_all.ensures) in
    let count = ap (λ (l : List (List Value)). length l) c.in_ok-tuples.ensures.tuples in
    let many : c.args.at_most < length new.tuples = omega (arith, count, c.len.ensures, c.if-len-at_most.true) in
    answers_more own.query own.instance c.args.at_most old new full c.new-answers.ensures adds
    c.in_ok-tuples.ensures.ascending many

pub returns-clause-all : goal.returns-clause-all
returns-clause-all c =
    let own = c.args.self.now in
    let old = c.new-answers.result in
    let new = c.collect_all.new.answers in
    let full = c.in_ok-collect_all.field-0 in
    let relations = c.deref.ensures.value ∙ ap (λ (i : IndexedQuery). i.instance) c.self.view_is in
    let disjuncts = ap disjuncts_of c.deref-2.ensures.value ∙ ap (λ (i : IndexedQuery). i.query.disjuncts) c.self.view_is in
    let adds = subst (λ (l : List Disjunct). Adds (IsAnswerOf l own.instance) old new full) disjuncts
    (subst (λ (r : List (List (List Value))). Adds (IsAnswerOf (disjuncts_of c.deref-2.result.now) r) old new full) relations
    c.in_ok-collect_all.ensures) in
    let count = ap (λ (l : List (List Value)). length l) c.in_ok-tuples.ensures.tuples in
    let few : length new.tuples ≤ c.args.at_most = omega (arith, count, c.len.ensures, c.if-len-at_most.false) in
    subst (AreAnswers own.query own.instance) (sym c.in_ok-tuples.ensures.tuples)
    (answers_are own.query own.instance c.args.at_most old new full c.new-answers.ensures adds
    c.in_ok-tuples.ensures.ascending few)
