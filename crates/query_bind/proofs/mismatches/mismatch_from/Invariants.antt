-- No disjunct so far is refused, and their kinds are noted.
use Rattle.std.proofs.Common.{◌≡◌, drop}
use Rattle.std.specs.Prelude.{is_some}
use Rattle.spec_names.specs.Names.{place_of}
use Rattle.query_bind.specs.Steps.{kind_for, mismatch_from}
use Rattle.query_bind.proofs.mismatches.mismatch_from.Given as goal

abbrev pub invariant-loop-disjunct : goal.invariant-loop-disjunct
invariant-loop-disjunct l =
    mismatch_from l.names l.relations (λ name. is_some (place_of l.head name)) (kind_for l.before)
    (drop l.disjunct-index l.disjuncts)
    ≡ mismatch_from l.names l.relations (λ name. is_some (place_of l.head name)) (kind_for l.fn.before) l.disjuncts
