use Rattle.std.proofs.Common.{◌≡◌}
use Rattle.search_trail.specs.Trails.{whole_scope}
use Rattle.order_search.proofs.rounds.all_vars.Given as goal

abbrev pub invariant-loop-var : goal.invariant-loop-var
invariant-loop-var l = l.vars.items ≡ whole_scope l.var
