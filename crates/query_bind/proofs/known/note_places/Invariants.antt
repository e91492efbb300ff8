-- The kinds so far, before those of what is left, are the whole.
use Rattle.std.proofs.Common.{◌≡◌, ℕ, List, drop}
use Rattle.query_bind.specs.Queried.{first_at, kind_by, or_first}
use Rattle.query_bind.specs.Steps.{kind_for}
use Rattle.query_bind.proofs.known.note_places.Given as goal

abbrev pub invariant-loop-at : goal.invariant-loop-at
invariant-loop-at l =
    (name : List ℕ) → or_first (kind_for l.noted name) (first_at (kind_by l.relation name) l.at (drop l.at l.places))
    ≡ or_first (kind_for l.fn.noted name) (first_at (kind_by l.relation name) 0 l.places)
