use Rattle.std.proofs.Common.{subst, sym}
use Rattle.query_plan.specs.Implied.{IsImplied}
use Rattle.semi_joins.proofs.alone.has_unequal.Goals as goal

pub returns-then-is_unequal : goal.returns-then-is_unequal
returns-then-is_unequal c = λ tests all.
    c.if-is_unequal.ensures tests (subst (IsImplied tests) (sym c.equality-item.is)
    (all c.loop-equality.equality-index c.equality-item.result c.loop-equality-test.true))
