use Rattle.std.proofs.Common.{length}
use Rattle.semi_joins.proofs.keys.+order.Given as goal

abbrev pub decreases-order : goal.decreases-order
decreases-order l = length l.ones.now
