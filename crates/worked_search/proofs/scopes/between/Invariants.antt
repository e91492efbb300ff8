use Rattle.search_trail.specs.Trails.{IsScope}
use Rattle.worked_search.proofs.scopes.between.Given as goal

abbrev pub invariant-loop-var : goal.invariant-loop-var
invariant-loop-var l = IsScope l.var l.scope.items
