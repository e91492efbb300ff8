-- No variable so far is refused.
use Rattle.std.proofs.Common.{◌≡◌, drop}
use Rattle.bind_faults.specs.Faults.{first_of}
use Rattle.query_bind.specs.Queried.{missing}
use Rattle.query_bind.proofs.heads.first_missing.Given as goal

abbrev pub invariant-loop-named : goal.invariant-loop-named
invariant-loop-named l =
    first_of (missing l.each) (drop l.named-index l.head) ≡ first_of (missing l.each) l.head
