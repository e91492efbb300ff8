use Rattle.std.proofs.Common.{List, subst}
use Rattle.query_model.specs.declared.query.Test.{Test}
use Rattle.query_plan.specs.Implied.{AreContrary, AreEqual, IsUnlike}
use Rattle.query_plan.proofs.Following.{of_true, on_true, unlike_equal}
use Rattle.query_plan.proofs.standings.Standings.is_unlike_equal.Goals as goal

pub returns-then-are_unlike : goal.returns-then-are_unlike
returns-then-are_unlike c =
    let tests = c.args.self.now in
    on_true c.are_equal.result (AreContrary tests)
    (λ holds. unlike_equal tests c.args.left c.args.right
    (subst (λ (l : List Test). IsUnlike l c.args.left c.args.right) c.self.view_is c.if-are_unlike.ensures)
    (of_true c.are_equal.result (AreEqual tests c.args.left c.args.right) c.are_equal.ensures holds))
