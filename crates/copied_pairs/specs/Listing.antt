-- The copied pairs as they are listed: row by row, and for each row the rows of its entity in their order.
use Rattle.std.specs.Prelude.{◌≡◌, ◌<◌, ◌+◌, ◌==◌, ◌&&◌, ℕ, Bool, false, not, List, [], ◌∷◌, ◌++◌, Option, Some, None, length, if◌then◌else◌}
use Rattle.currency_base.specs.declared.ids.RowId.{RowId}
use Rattle.currency_base.specs.declared.row.Row.{Row}
use Rattle.partial_orders.specs.Pairs.{entity_of}
use Rattle.copy_functions.specs.Copies.{CopyFunction, source_at}
use Rattle.entity_lists.specs.Lists.{entities_of, rows_of}
use Rattle.copied_pairs.specs.declared.pairs.CopiedPair.{CopiedPair}

-- each source row is there
abbrev pub HasSources : CopyFunction → List Row → Type 0
HasSources copy source = (row from : RowId) → source_at copy row ≡ Some from → from.0 < length source

-- two entities that are there and one
abbrev pub same_entity : Option ℕ → Option ℕ → Bool
same_entity None other = false
same_entity (Some ent) None = false
same_entity (Some ent) (Some other) = ent == other

-- a row with this source goes with a row that was copied from another: their sources differ and are of one entity (so the two
-- rows differ too)
abbrev pub goes_with : List Row → RowId → Option RowId → Bool
goes_with source from None = false
goes_with source from (Some other) = not (other.0 == from.0) && same_entity (entity_of source from.0) (entity_of source other.0)

-- the pairs of the first row, which was copied from that row, with these rows
abbrev pub pairs_with : CopyFunction → List Row → RowId → RowId → List RowId → List CopiedPair
pairs_with copy source first from [] = []
pairs_with copy source first from (second ∷ rows) =
    if goes_with source from (source_at copy second) then record { first = first; second = second }
    ∷ pairs_with copy source first from rows else pairs_with copy source first from rows

-- the same where the first row is mapped; else none
abbrev pub pairs_if : CopyFunction → List Row → RowId → Option RowId → List RowId → List CopiedPair
pairs_if copy source first None rows = []
pairs_if copy source first (Some from) rows = pairs_with copy source first from rows

-- the pairs of the rows from a number on, whose entities are those of the list
abbrev pub pairs_from : CopyFunction → List Row → List ℕ → ℕ → List ℕ → List CopiedPair
pairs_from copy source entities number [] = []
pairs_from copy source entities number (ent ∷ rest) =
    pairs_if copy source (record { 0 = number }) (source_at copy (record { 0 = number })) (rows_of entities ent)
    ++ pairs_from copy source entities (number + 1) rest

-- the pairs of all rows
abbrev pub pairs_of : CopyFunction → List Row → List Row → List CopiedPair
pairs_of copy target source = pairs_from copy source (entities_of target) 0 (entities_of target)
