use Rattle.std.proofs.Common.{IfOk, [], ◌∷◌, refl, subst, arith}
use Rattle.spec_model.specs.Spec.{Spec}
use Rattle.spec_model.specs.declared.question.Question.TheVariants as asked
use Rattle.report_model.specs.declared.verdict.Verdict.TheVariants as verdict
use Rattle.report_verify.specs.Asked.{AreItemsOf}
use Rattle.report_verify.specs.Supported.{needs_of}
use Rattle.currency_ask.specs.Goals.{AreClaims}
use Rattle.currency_ask.specs.Reported.{IsListedFor, IsReported}
use Rattle.currency_ask.proofs.GoalFacts.{differing_value, list_goals, values_asked, values_claimed}
use Rattle.currency_ask.proofs.currents.reported.Goals as goal

pub differ-requires-clause-differ : goal.differ-requires-clause-differ
differ-requires-clause-differ c =
    differing_value c.args.search c.args.spec.now c.args.rels.now c.args.first c.in-Fails.completion c.args.values
    c.in-Fails.place c.requires.outcome.left c.args.decided
    c.get.result.now c.place_of-at.result c.in-Fails.is c.requires.spec c.requires.outcome.comes_to c.requires.values
    c.get.ensures c.place_of-at.ensures

pub proved-requires-clause-goals : goal.proved-requires-clause-goals
proved-requires-clause-goals c =
    list_goals c.args.search.spec c.args.search.wanted c.args.values.goals
    (values_asked c.args.spec.now c.args.search c.args.rels.now c.args.first c.args.values c.requires.spec
    c.requires.asked_for c.requires.values)

pub returns-in-Proved : goal.returns-in-Proved
returns-in-Proved c =
    let rels = c.args.rels.now in
    let v = c.args.values in
    let claims = c.requires.values.claims in
    subst (λ (s : Spec). AreItemsOf s.relations rels v.claims.items
    → AreClaims s c.args.search.posed v.goals (needs_of (asked.Same rels) (verdict.Same v.claims.items))
    → IsListedFor s (asked.Same rels) (verdict.Same v.claims.items) (c.args.first ∷ []) → IfOk c.proved.result
    (IsReported s (asked.Same rels) c.args.budget))
    c.requires.spec (c.proved.ensures (asked.Same rels) c.args.budget c.requires.asked_for
    (let units = c.requires.outcome.units in omega (arith, units))) claims.items
    (values_claimed c.args.spec.now c.args.search.posed rels c.args.first v.claims.rows v.goals
    (needs_of (asked.Same rels) (verdict.Same v.claims.items)) claims.rows
    c.requires.values.goals) refl
