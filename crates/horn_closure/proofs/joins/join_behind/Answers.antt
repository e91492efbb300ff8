use Rattle.std.proofs.Common.{ℕ, subst}
use Rattle.std.proofs.lemmas.Result.{on_ok_weaker}
use Rattle.horn_closure.specs.Steps.{StandsAt, IsAdded}
use Rattle.horn_closure.specs.declared.derived.Why.TheVariants.{Joined}
use Rattle.horn_closure.proofs.JoinFacts.{one_behind}
use Rattle.horn_closure.proofs.joins.join_behind.Goals as goal

pub returns-clause-ok : goal.returns-clause-ok
returns-clause-ok c =
    let at = subst (StandsAt c.args.known.now.derived c.in-Some.first) c.slot_in.ensures.slot c.in-Some.ensures.some in
    on_ok_weaker _
    (λ added. one_behind _ _ _ _ _ _ c.requires.other at
    (subst (λ (s : ℕ). IsAdded c.args.known.now.derived s (Joined c.in-Some.first c.args.place)
    c.add.new.self.derived) c.slot_in-2.ensures.slot added))
    c.add.ensures.ok
