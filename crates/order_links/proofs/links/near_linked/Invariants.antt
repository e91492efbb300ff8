use Rattle.std.proofs.Common.{All}
use Rattle.order_links.specs.Lists.{IsListOf}
use Rattle.order_links.proofs.links.near_linked.Given as goal

abbrev pub invariant-loop-way : goal.invariant-loop-way
invariant-loop-way l = All (IsListOf l.relations) l.near
