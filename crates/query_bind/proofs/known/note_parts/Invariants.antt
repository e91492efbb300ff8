-- The kinds so far, before those of what is left, are the whole.
use Rattle.std.proofs.Common.{◌≡◌, ℕ, List, drop}
use Rattle.query_bind.specs.Queried.{first_some, kind_in_part, or_first}
use Rattle.query_bind.specs.Steps.{kind_for}
use Rattle.query_bind.proofs.known.note_parts.Given as goal

abbrev pub invariant-loop-part : goal.invariant-loop-part
invariant-loop-part l =
    (name : List ℕ) → or_first (kind_for l.noted name) (first_some (kind_in_part l.names l.relations name)
    (drop l.part-index l.parts))
    ≡ or_first (kind_for l.fn.noted name) (first_some (kind_in_part l.names l.relations name) l.parts)
