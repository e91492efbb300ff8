use Rattle.std.proofs.Common.{◌≡◌, length}
use Rattle.order_search.proofs.lasting.find_tops.Given as goal

abbrev pub invariant-loop-place : goal.invariant-loop-place
invariant-loop-place l = length l.tops.items ≡ l.vars
