use Rattle.std.proofs.Common.{◌≡◌, ◌+◌, ◌-◌, rules, of_calls, nat_le, arith}
use Rattle.std.proofs.lemmas.Fn.{always_returns_same}
use Rattle.order_literals.proofs.Searched.{LiesAt, starts_split, lies_at}
use Rattle.order_literals.proofs.blocks.block_at.Goals as goal

lies : (c : goal.After-partition_point) → LiesAt c.args.starts.now c.args.var c.partition_point.result
lies c =
    let key = always_returns_same _ _ _ (λ a r f k. search (rules, of_calls)) in
    let point = c.partition_point.ensures.partitioned (λ start. nat_le start c.args.var) key
    (starts_split c.args.starts.now c.args.var c.requires) in
    lies_at c.args.starts.now c.args.var c.partition_point.result c.requires c.partition_point.ensures.bound point

pub overflow_sub-result : goal.overflow_sub-result
overflow_sub-result c = (lies c).some

pub returns-clause-within : goal.returns-clause-within
returns-clause-within c =
    let at = lies c in
    omega (arith, at.some, at.within)

pub returns-clause-from : goal.returns-clause-from
returns-clause-from c = (lies c).from

pub returns-clause-to : goal.returns-clause-to
returns-clause-to c =
    let at = lies c in
    let some = at.some in
    let place : c.partition_point.result - 1 + 1 ≡ c.partition_point.result = omega arith in
    rw place at.to
