-- The atoms so far, in front of the others, are the whole.
use Rattle.std.proofs.Common.{◌≡◌, drop}
use Rattle.query_bind.specs.Queried.{atoms_of}
use Rattle.query_bind.specs.Steps.{with_front}
use Rattle.query_bind.proofs.resolve.atoms_after.Given as goal

abbrev pub invariant-loop-part : goal.invariant-loop-part
invariant-loop-part l =
    with_front l.atoms (atoms_of l.names l.vars (drop l.part-index l.parts)) ≡ with_front l.fn.before
    (atoms_of l.names l.vars l.parts)
