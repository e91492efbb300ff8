use Rattle.std.proofs.Common.{rules, ◌<◌, length}
use Rattle.semi_joins.proofs.Keeping.{greater_first}
use Rattle.semi_joins.proofs.keys.+order.Goals as goal

pub returns-in-len1-up-empty : goal.returns-in-len1-up-empty
returns-in-len1-up-empty t c =
    let some : 0 < length c.args.ones.now = search rules in
    let none : length c.args.others.now < 1 = search rules in
    greater_first c.args.ones.now c.args.others.now c.args.one.now c.args.other.now some none
