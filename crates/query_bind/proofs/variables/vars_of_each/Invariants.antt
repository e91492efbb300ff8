-- The disjuncts so far have their variables.
use Rattle.std.proofs.Common.{◌≡◌, map, take}
use Rattle.query_bind.specs.Queried.{vars_of}
use Rattle.query_bind.proofs.variables.vars_of_each.Given as goal

abbrev pub invariant-loop-disjunct : goal.invariant-loop-disjunct
invariant-loop-disjunct l =
    l.each ≡ map vars_of (take l.disjunct-index l.disjuncts)
