use Rattle.std.proofs.Common.{arith}
use Rattle.log_trim.specs.Marked.{is_marked}
use Rattle.log_trim.proofs.Ranks.{rank_le}
use Rattle.log_trim.proofs.copies.renumber_lit.Goals as goal

pub new-requires : goal.new-requires
new-requires c =
    let below = rank_le (is_marked c.args.vars.now) c.var.result in
    omega (arith, c.rank.ensures, c.var.ensures.few, below)
