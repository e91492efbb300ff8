-- The pairs of rows of one entity, by the entity of each row.
use Rattle.std.specs.Prelude.{◌+◌, ℕ, List, [], ◌∷◌, ◌++◌, map}
use Rattle.currency_base.specs.declared.ids.RowId.{RowId}
use Rattle.entity_lists.specs.Lists.{rows_from}
use Rattle.pair_numbers.specs.declared.pair.RowPair.{RowPair}

-- a row with each of these rows
abbrev pub with_each : RowId → List RowId → List RowPair
with_each earlier laters = map (λ later. record { earlier = earlier; later = later }) laters

-- each of these rows, of which the first has this number, with each later row of its entity
abbrev pub pairs_from : ℕ → List ℕ → List RowPair
pairs_from first [] = []
pairs_from first (e ∷ es) = with_each (record { 0 = first }) (rows_from (first + 1) es e) ++ pairs_from (first + 1) es

-- the pairs of different rows of one entity, each once with the lesser row first: by the first row, and then by the second
abbrev pub pairs_of : List ℕ → List RowPair
pairs_of entities = pairs_from 0 entities
