-- No disjunct so far is too large.
use Rattle.std.proofs.Common.{◌≡◌, drop}
use Rattle.std.specs.List.{list_any}
use Rattle.query_bind.specs.Queried.{is_large}
use Rattle.query_bind.proofs.limits.any_large.Given as goal

abbrev pub invariant-loop-disjunct : goal.invariant-loop-disjunct
invariant-loop-disjunct l =
    list_any (is_large) (drop l.disjunct-index l.disjuncts) ≡ list_any (is_large) l.disjuncts
