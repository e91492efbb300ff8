use Rattle.std.proofs.Common.{rules, of_calls, nat_lt}
use Rattle.std.proofs.lemmas.Fn.{always_returns_same}
use Rattle.order_literals.proofs.Firsts.{lesser_first, next_is}
use Rattle.order_literals.proofs.values.place_among.Goals as goal

pub returns : goal.returns
returns c =
    let key = always_returns_same _ _ _ (λ a r f k. search (rules, of_calls)) in
    let point = c.partition_point.ensures.partitioned (λ other. nat_lt other.0 c.args.row.0) key
    (lesser_first c.args.rows.now c.args.row c.requires) in
    next_is c.args.rows.now c.args.row c.partition_point.result c.requires c.partition_point.ensures.bound point
