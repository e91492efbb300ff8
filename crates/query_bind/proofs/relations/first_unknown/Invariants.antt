-- No disjunct so far is refused.
use Rattle.std.proofs.Common.{◌≡◌, drop}
use Rattle.bind_faults.specs.Faults.{first_of}
use Rattle.query_bind.specs.Queried.{unknown_in}
use Rattle.query_bind.proofs.relations.first_unknown.Given as goal

abbrev pub invariant-loop-disjunct : goal.invariant-loop-disjunct
invariant-loop-disjunct l =
    first_of (unknown_in l.names) (drop l.disjunct-index l.disjuncts) ≡ first_of (unknown_in l.names) l.disjuncts
