use Rattle.std.proofs.Common.{subst, sym}
use Rattle.std.specs.List.{All}
use Rattle.query_plan.specs.Implied.{IsImplied, IsLed}
use Rattle.query_plan.specs.Plans.{Conditioned}
use Rattle.query_plan.proofs.conditions.Conditions.leader.Goals as goal

pub returns : goal.returns
returns c =
    let tests = c.self.inside.tests.now in
    subst (λ (k : Conditioned). IsLed k.tests c.args.var c.leader_of.result) c.self.view_is
    (c.leader_of.ensures tests (subst (All (IsImplied tests)) (sym c.deref.ensures.value) c.self.invariant.implied))
