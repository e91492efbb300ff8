use Rattle.std.proofs.Common.{IfOk, length, refl, subst, unwrap_or}
use Rattle.spec_model.specs.Spec.{Spec}
use Rattle.spec_model.specs.declared.question.Question.TheVariants as asked
use Rattle.currency_ask.specs.Reported.{IsReported}
use Rattle.currency_ask.proofs.Earlier.{before_failing}
use Rattle.currency_ask.proofs.GoalFacts.{all_pairs, list_goals, pairs_asked, pairs_claimed}
use Rattle.currency_ask.proofs.pairs.pairs_derived.Goals as goal

pub proved-requires-clause-goals : goal.proved-requires-clause-goals
proved-requires-clause-goals c =
    list_goals c.args.search.spec c.args.search.wanted c.args.goals.now
    (pairs_asked c.args.spec.now c.args.search.spec c.args.search.wanted c.args.pairs.now
    (unwrap_or c.args.failing (length c.args.pairs.now)) c.args.goals.now
    c.requires.spec c.requires.asked c.requires.goals)

pub returns-in-None : goal.returns-in-None
returns-in-None c = λ budget within.
    subst (λ (s : Spec). IfOk c.proved.result (IsReported s (asked.Certain c.args.pairs.now) budget)) c.requires.spec
    (c.proved.ensures (asked.Certain c.args.pairs.now) budget c.requires.asked_for within tt
    (pairs_claimed c.args.search.spec c.args.search.posed c.args.pairs.now c.args.goals.now
    (all_pairs c.args.pairs.now c.args.failing c.args.goals.now c.in-None.is c.requires.goals)) refl)

pub fails_at-requires-clause-others : goal.fails_at-requires-clause-others
fails_at-requires-clause-others c =
    before_failing c.args.search c.args.spec.now c.args.pairs.now c.args.failing c.args.goals.now c.in-Some.place
    c.args.steps.now c.proved_pairs_hold.ensures
    c.requires.spec c.requires.asked c.requires.goals c.in-Some.is c.requires.proved
