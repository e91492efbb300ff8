-- Rankings of one shape.
use Rattle.std.specs.Prelude.{◌≡◌, ◌<◌, ◌^◌, ℕ, List, [], length, slice_set, slice_index_or}
use Rattle.currency_base.specs.declared.ids.RowId.{RowId}
use Rattle.spec_model.specs.Completion.{Rankings, lists_of}

-- rankings of as many relations as other ones, with as many attributes and entities
pub record AreAlike (first c : Rankings) : Type 0 where
  pub per_relation : length first ≡ length c
  pub per_attr : (rel : ℕ) → length (slice_index_or first rel []) ≡ length (slice_index_or c rel [])
  pub per_entity : (rel attr : ℕ) → length (lists_of first rel attr) ≡ length (lists_of c rel attr)

-- rankings whose places are numbers of 32 bits
pub record IsNarrow (c : Rankings) : Type 0 where
  pub per_relation : length c < 2 ^ 32
  pub per_attr : (rel : ℕ) → length (slice_index_or c rel []) < 2 ^ 32
  pub per_entity : (rel attr : ℕ) → length (lists_of c rel attr) < 2 ^ 32

-- the rankings with the lists of one attribute replaced
abbrev pub with_lists : Rankings → ℕ → ℕ → List (List RowId) → Rankings
with_lists c rel attr lists = slice_set c rel (slice_set (slice_index_or c rel []) attr lists)
