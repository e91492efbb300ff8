-- The comparisons so far, in front of the others, are the whole.
use Rattle.std.proofs.Common.{◌≡◌, drop}
use Rattle.query_bind.specs.Queried.{tests_of}
use Rattle.query_bind.specs.Steps.{with_front}
use Rattle.query_bind.proofs.resolve.tests_of.Given as goal

abbrev pub invariant-loop-part : goal.invariant-loop-part
invariant-loop-part l =
    with_front l.tests (tests_of l.vars (drop l.part-index l.parts)) ≡ tests_of l.vars l.parts
