use Rattle.std.proofs.Common.{◌≡◌}
use Rattle.search_trail.specs.Trails.{whole_scope}
use Rattle.search_trail.proofs.values.all_of.Given as goal

abbrev pub invariant-loop-var : goal.invariant-loop-var
invariant-loop-var l = l.scope.items ≡ whole_scope l.var
