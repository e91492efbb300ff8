use Rattle.std.proofs.Common.{sym, arith}
use Rattle.spec_limits.proofs.Leaving.{left_none, left_some}
use Rattle.spec_limits.proofs.left.left_after.Goals as goal

pub returns-then-more-from : goal.returns-then-more-from
returns-then-more-from c = sym (left_none c.args.left c.args.more (omega (arith, c.from.ensures, c.if-more-from.true)))

pub returns : goal.returns
returns c = sym (left_some c.args.left c.args.more _ (omega (arith, c.from.ensures, c.if-more-from.false)))
