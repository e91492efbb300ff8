use Rattle.std.proofs.Common.{All}
use Rattle.order_links.specs.Lists.{IsListOf}
use Rattle.order_links.proofs.links.near_all.Given as goal

abbrev pub invariant-loop-place : goal.invariant-loop-place
invariant-loop-place l = All (IsListOf l.relations) l.near
