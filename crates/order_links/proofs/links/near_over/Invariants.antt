use Rattle.std.proofs.Common.{All}
use Rattle.order_links.specs.Lists.{IsListOf}
use Rattle.order_links.proofs.links.near_over.Given as goal

abbrev pub invariant-loop-tie : goal.invariant-loop-tie
invariant-loop-tie l = All (IsListOf l.relations) l.near
