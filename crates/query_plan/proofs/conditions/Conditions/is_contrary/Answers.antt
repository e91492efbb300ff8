use Rattle.std.proofs.Common.{subst}
use Rattle.std.specs.Bool.{OnTrue}
use Rattle.query_plan.specs.Implied.{AreContrary}
use Rattle.query_plan.specs.Plans.{Conditioned}
use Rattle.query_plan.proofs.conditions.Conditions.is_contrary.Goals as goal

pub returns : goal.returns
returns c = subst (λ (k : Conditioned). OnTrue c.self.inside.is_contrary (AreContrary k.tests)) c.self.view_is
    c.self.invariant.contrary
