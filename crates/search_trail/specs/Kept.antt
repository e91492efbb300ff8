-- Kept: what values and trails keep, and how contracts see it.
use Rattle.std.specs.Prelude.{◌≡◌, ◌==◌, ◌<◌, ◌≤◌, ⊤, ℕ, Bool, if◌then◌else◌, List, [], ◌∷◌, All, Option, Some, None, length, map, slice_get, slice_set, slice_index_or}
use Rattle.std.specs.List.{range_with_len}
use Rattle.currency_base.specs.Literals.{var_of}
use Rattle.currency_base.specs.declared.lit.Lit.{Lit}
use Rattle.search_trail.specs.Trails.{Entry, IsScope, value_in}

-- the values by variable, the scope, and the mark: the first place of the scope whose variable has no value, or the end
pub record AreGiven (given : List (Option Bool)) (scope : List ℕ) (low : ℕ) : Type 0 where
  pub few : length given ≤ 2147483648
  pub is_scope : IsScope (length given) scope
  pub low_within : low ≤ length scope
  pub free : (var : ℕ) → slice_get scope low ≡ Some var → slice_get given var ≡ Some None
  pub below : (i var : ℕ) → i < low → slice_get scope i ≡ Some var → slice_get given var ≡ Some None → ⊥

-- the clause that a number stands for; the greatest of 32 bits stands for none
abbrev pub reason_at : ℕ → Option ℕ
reason_at n = if n == 4294967295 then None else Some n

-- the entries of literals, by the reasons of their variables
abbrev pub entries_of : List ℕ → List Lit → List Entry
entries_of reasons [] = []
entries_of reasons (lit ∷ lits) =
    record { lit = lit; reason = reason_at (slice_index_or reasons (var_of lit) 4294967295) } ∷ entries_of reasons lits

-- each literal is of a variable that no later one is of
abbrev pub Once : List Lit → Type 0
Once [] = ⊤
Once (lit ∷ lits) = (value_in lits (var_of lit) ≡ None) × Once lits

-- the values without those of some literals
abbrev pub freed : List (Option Bool) → List Lit → List (Option Bool)
freed values [] = values
freed values (lit ∷ lits) = freed (slice_set values (var_of lit) None) lits

-- the parts of a trail fit each other; the last two numbers are the room for literals and for levels
pub record IsTrail (values : List (Option Bool)) (lits : List Lit) (places reasons starts : List ℕ)
    (gone lits_room starts_room : ℕ) : Type 0 where
  pub values_are : values ≡ map (value_in lits) (range_with_len 0 (length values))
  pub few : length values ≤ 2147483648
  pub places_length : length places ≡ length values
  pub reasons_length : length reasons ≡ length values
  pub places_are : (place : ℕ) (lit : Lit) → slice_get lits place ≡ Some lit → slice_index_or places (var_of lit) 0 ≡ place
  pub within : All (λ lit. var_of lit < length values) lits
  pub once : Once lits
  pub ascend : (i j low high : ℕ) → i < j → slice_get starts i ≡ Some low → slice_get starts j ≡ Some high → low < high
  pub begun : (i start : ℕ) → slice_get starts i ≡ Some start → start < length lits
  pub assumed : (place : ℕ) (lit : Lit) → slice_get lits place ≡ Some lit → slice_index_or reasons (var_of lit)
      4294967295 ≡ 4294967295 → (i : ℕ) × (slice_get starts i ≡ Some place)
  pub gone_within : gone ≤ length lits
  pub lits_fit : length values ≤ lits_room
  pub starts_fit : length values ≤ starts_room
