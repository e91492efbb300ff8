-- No part so far is refused.
use Rattle.std.proofs.Common.{◌≡◌, drop}
use Rattle.bind_faults.specs.Faults.{first_of}
use Rattle.query_bind.specs.Queried.{unknown_part}
use Rattle.query_bind.proofs.relations.unknown_among.Given as goal

abbrev pub invariant-loop-part : goal.invariant-loop-part
invariant-loop-part l =
    first_of (unknown_part l.names) (drop l.part-index l.parts) ≡ first_of (unknown_part l.names) l.parts
