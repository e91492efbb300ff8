-- The variables so far, before what is left, are the whole.
use Rattle.std.proofs.Common.{◌≡◌, drop}
use Rattle.std.specs.List.{fold}
use Rattle.query_bind.specs.Queried.{with_part}
use Rattle.query_bind.proofs.variables.add_parts.Given as goal

abbrev pub invariant-loop-part : goal.invariant-loop-part
invariant-loop-part l =
    fold with_part l.vars (drop l.part-index l.parts) ≡ fold with_part l.fn.vars l.parts
