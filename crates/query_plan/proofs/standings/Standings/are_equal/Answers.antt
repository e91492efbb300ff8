use Rattle.query_plan.specs.Implied.{AreEqual}
use Rattle.query_plan.proofs.Following.{on_true, opposite_equal}
use Rattle.query_plan.proofs.standings.Standings.are_equal.Goals as goal

pub returns-in-Some-Some : goal.returns-in-Some-Some
returns-in-Some-Some c =
    on_true c.are_opposite.result (AreEqual c.args.self.now c.args.a c.args.b)
    (λ holds. opposite_equal c.args.self.now c.in-Some-Some.up c.in-Some-Some.down c.args.a c.args.b (c.are_opposite.ensures holds)
    c.in-Some-Some.ensures c.in-Some-Some.ensures')
