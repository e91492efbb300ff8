-- Choices of rows that go on from a front, row by row.
use Rattle.std.specs.Prelude.{ℕ, zero, suc, Bool, List, [], ◌∷◌, ◌++◌, cond}
use Rattle.currency_base.specs.declared.ids.RowId.{RowId}
use Rattle.std.specs.List.{flat_map}

-- the choices that pass a test, begin with the front and go on with so many of the members
abbrev pub chosen_from : (List RowId → Bool) → List RowId → ℕ → List RowId → List (List RowId)
chosen_from test members zero front = cond (test front) (front ∷ []) []
chosen_from test members (suc left) front = flat_map (λ row. chosen_from test members left (front ++ row ∷ [])) members
