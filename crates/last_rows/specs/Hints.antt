-- The hints of the steps.
use Rattle.std.specs.Prelude.{◌==◌, ◌+◌, ◌-◌, if◌then◌else◌, ℕ, zero, suc, List, [], ◌∷◌, ◌++◌, length, slice_index_or}
use Rattle.last_rows.specs.Rows.{each_below, later_of, later_place_of, three_of}
use Rattle.last_rows.specs.declared.rows.RowList.{RowList}

-- the axiom on a row, this and a later one, unless the row is this
abbrev pub three_hint : RowList → ℕ → ℕ → ℕ → List ℕ
three_hint l own later row = if row == own then [] else three_of l row own later ∷ []

-- those of the rows below a bound
unfoldable pub three_hints : RowList → ℕ → ℕ → ℕ → List ℕ
three_hints l own later zero = []
three_hints l own later (suc n) = three_hints l own later n ++ three_hint l own later n

-- of a clause without the last of its first rows: the clause with it, the axioms on three rows, and the clause of that row;
-- these stand at places by row
abbrev pub row_hints : RowList → List ℕ → ℕ → ℕ → List ℕ
row_hints l places own later = (slice_index_or places own 0 ∷ three_hints l own later later) ++ slice_index_or places later 0 ∷ []

-- those of the rows behind the kept ones, so many: of each the step that it stands before the row that is known to stand after
-- it, and the axiom on that row, this and it, unless that row is this
unfoldable pub known_hints : RowList → ℕ → ℕ → List ℕ
known_hints l own zero = []
known_hints l own (suc n) = (known_hints l own n ++ later_place_of l (l.kept + n) ∷ []) ++ three_hint l own (l.kept + n)
    (later_of l (l.kept + n))

-- of a clause without the rows that are not kept: the hints of these, and the clause with them; this stands at a place by row
abbrev pub left_hints : RowList → List ℕ → ℕ → List ℕ
left_hints l places own = known_hints l own (length l.tops.items - l.kept) ++ slice_index_or places own 0 ∷ []

-- of the clause that some value is current: the axioms `last`, and the clause that some row stands last
abbrev pub current_hints : RowList → ℕ → ℕ → List ℕ
current_hints l count place = each_below (λ row. slice_index_or l.last_places.items row 0) count ++ place ∷ []
