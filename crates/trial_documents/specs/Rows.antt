-- The hidden order of the rows of an entity, and which pairs of it are given. Entities, their rows and places are
-- counted from 0, and an entity has eight rows.
use Rattle.std.specs.Prelude.{ℕ, ◌+◌, ◌-◌, ◌*◌, ◌%◌, ◌==◌, ◌||◌, Bool, not}

-- the place of a row
abbrev pub place_of : ℕ → ℕ → ℕ
place_of entity row = (3 * row + entity) % 8

-- the row at a place, where there are `size` entities
abbrev pub row_at : ℕ → ℕ → ℕ → ℕ
row_at size entity place = 3 * (place + 8 * size - entity) % 8

-- is the pair of the row at a place and the row at the next place given?
abbrev pub is_given : ℕ → ℕ → Bool
is_given entity place = (entity % 2 == 0) || not ((entity + place) % 3 == 0)
