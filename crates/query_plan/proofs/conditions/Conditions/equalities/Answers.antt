use Rattle.std.proofs.Common.{subst}
use Rattle.std.specs.List.{All}
use Rattle.query_plan.specs.Implied.{IsImplied}
use Rattle.query_plan.specs.Plans.{Conditioned}
use Rattle.query_plan.proofs.conditions.Conditions.equalities.Goals as goal

pub returns-clause-implied : goal.returns-clause-implied
returns-clause-implied c = subst (λ (k : Conditioned). All (IsImplied k.tests) k.equalities) c.self.view_is c.self.invariant.implied
