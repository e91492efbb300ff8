-- No part so far is refused.
use Rattle.std.proofs.Common.{◌≡◌, drop}
use Rattle.bind_faults.specs.Faults.{first_of}
use Rattle.query_bind.specs.Queried.{part_mismatch}
use Rattle.query_bind.specs.Steps.{kind_among, kind_for}
use Rattle.query_bind.proofs.mismatches.mismatch_among.Given as goal

abbrev pub invariant-loop-part : goal.invariant-loop-part
invariant-loop-part l =
    first_of (part_mismatch l.scope.names.now l.scope.relations.now (kind_for l.scope.own.now)
    (kind_among l.scope.head.now l.scope.before.now)) (drop l.part-index l.parts) ≡ first_of
    (part_mismatch l.scope.names.now l.scope.relations.now (kind_for l.scope.own.now)
    (kind_among l.scope.head.now l.scope.before.now)) l.parts
