use Rattle.query_plan.proofs.Following.{below_itself}
use Rattle.query_plan.proofs.standings.Standings.is_contrary_at.Goals as goal

pub returns-then-is_below_itself : goal.returns-then-is_below_itself
returns-then-is_below_itself c =
    let are = c.is_below_itself.ensures c.if-is_below_itself.true in
    below_itself c.args.self.now c.in-Some.standing are.0 are.1 c.in-Some.ensures
