-- Completions that are told by what differs from another one.
use Rattle.std.specs.Prelude.{List, [], ◌∷◌}
use Rattle.currency_base.specs.declared.ids.RowId.{RowId}
use Rattle.spec_model.specs.Completion.{Rankings}

-- the items of two lists, place by place, made one; where the first list ends the second goes on
abbrev pub merged : {A : Type 0} → (A → A → A) → List A → List A → List A
merged f xs [] = []
merged f [] (y ∷ ys) = y ∷ ys
merged f (x ∷ xs) (y ∷ ys) = f x y ∷ merged f xs ys

-- a list, or where it has no row another one
abbrev pub list_or : List RowId → List RowId → List RowId
list_or first [] = first
list_or first (row ∷ rows) = row ∷ rows

-- rankings with the first ones' list at each place where they have no row
abbrev pub filled : Rankings → Rankings → Rankings
filled first c = merged (merged (merged list_or)) first c
