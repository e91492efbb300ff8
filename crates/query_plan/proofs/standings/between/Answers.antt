use Rattle.std.proofs.Common.{List}
use Rattle.query_model.specs.declared.query.Test.{Test}
use Rattle.query_plan.specs.Implied.{Follows}
use Rattle.query_plan.proofs.Following.{if_some}
use Rattle.query_plan.proofs.standings.between.Goals as goal

pub returns : goal.returns
returns c =
    if_some c.joined.result
    (λ both. (tests : List Test) → Follows tests c.in_ok-first.first → Follows tests c.in_ok-second.second → Follows tests both)
    (Follows c.args.standings.now) (λ both told. told c.args.standings.now c.in_ok-first.ensures c.in_ok-second.ensures)
    c.joined.ensures
