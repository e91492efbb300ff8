use Rattle.std.proofs.Common.{subst, sym}
use Rattle.std.specs.List.{All}
use Rattle.std.proofs.lemmas.Bool.{OnTrue_at, OnTrue_from}
use Rattle.query_plan.specs.Implied.{IsImplied}
use Rattle.semi_joins.proofs.alone.fails.Goals as goal

pub returns-else-has_failing : goal.returns-else-has_failing
returns-else-has_failing c = OnTrue_from c.has_unequal.result _ (λ is.
    let tests = c.args.conditions.now.tests in
    let all = subst (All (IsImplied tests)) (sym c.equalities.ensures.same) c.equalities.ensures.implied in
    OnTrue_at is c.has_unequal.ensures tests all)
