use Rattle.std.proofs.Common.{ℕ, subst}
use Rattle.std.proofs.lemmas.Result.{on_ok_weaker}
use Rattle.horn_closure.specs.Steps.{StandsAt, IsAdded}
use Rattle.horn_closure.specs.declared.derived.Why.TheVariants.{Joined}
use Rattle.horn_closure.proofs.JoinFacts.{one_ahead}
use Rattle.horn_closure.proofs.joins.join_ahead.Goals as goal

pub returns-clause-ok : goal.returns-clause-ok
returns-clause-ok c =
    let at = subst (StandsAt c.args.known.now.derived c.in-Some.second) c.slot_in.ensures.slot c.in-Some.ensures.some in
    on_ok_weaker _
    (λ added. one_ahead _ _ _ _ _ _ c.requires.other at
    (subst (λ (s : ℕ). IsAdded c.args.known.now.derived s (Joined c.args.place c.in-Some.second)
    c.add.new.self.derived) c.slot_in-2.ensures.slot added))
    c.add.ensures.ok
