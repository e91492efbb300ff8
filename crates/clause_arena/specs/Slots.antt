-- Clauses in one vector of literals, and the slots by which they are watched: `2 * clause` and `2 * clause + 1`.
use Rattle.std.specs.Prelude.{◌≡◌, ◌⊎◌, ◌<◌, ◌≤◌, ◌+◌, ◌*◌, ◌/◌, ℕ, Bool, List, ◌∷◌, All, Some, length, map, slice_get}
use Rattle.currency_base.specs.Lists.{OnlyOnce}
use Rattle.currency_base.specs.declared.lit.Lit.{Lit}
use Rattle.watch_links.specs.Links.{IsIn, Links, list_of, lists_with}
use Rattle.clause_arena.specs.Arenas.{is_other, place_of}

-- the clauses, and for how many more clauses and literals there is room
pub record Clauses : Type 0 where
  pub lists : List (List Lit)
  pub lists_left : ℕ
  pub lits_left : ℕ

-- the clause of a slot
abbrev pub clause_of : ℕ → ℕ
clause_of slot = slot / 2

-- for lists of slots, those of their clauses
abbrev pub clauses_of : List (List ℕ) → List (List ℕ)
clauses_of lists = map (map clause_of) lists

-- the clause is watched: each of its two slots stands in the list of the literal there
pub record IsLinked (clauses : List (List Lit)) (lists : List (List ℕ)) (clause : ℕ) : Type 0 where
  pub lits : List Lit
  pub is_clause : slice_get clauses clause ≡ Some lits
  pub long : 2 ≤ length lits
  pub by : (side : ℕ) (lit : Lit) → side < 2 → slice_get lits side ≡ Some lit → IsIn (2 * clause + side)
      (list_of lists (place_of lit))

-- the slot is one of a watched clause, and the list where it stands is that of the literal there
pub record IsSide (clauses : List (List Lit)) (lists : List (List ℕ)) (owner slot : ℕ) : Type 0 where
  pub clause : ℕ
  pub side : ℕ
  pub first_or_second : side < 2
  pub is_slot : slot ≡ 2 * clause + side
  pub linked : IsLinked clauses lists clause
  pub lit : Lit
  pub is_lit : slice_get linked.lits side ≡ Some lit
  pub is_owner : owner ≡ place_of lit

-- both slots of the clause stand in lists, and one of them in this owner's
pub record IsWatching (lists : List (List ℕ)) (owner clause : ℕ) : Type 0 where
  pub first_owner : ℕ
  pub second_owner : ℕ
  pub by_first : IsIn (2 * clause) (list_of lists first_owner)
  pub by_second : IsIn (2 * clause + 1) (list_of lists second_owner)
  pub is_one : (owner ≡ first_owner) ⊎ (owner ≡ second_owner)

-- the lists of slots are those of these clauses
pub record AreSlots (clauses : List (List Lit)) (slots : ℕ) (lists : List (List ℕ)) : Type 0 where
  pub two_each : slots ≡ 2 * length clauses
  pub sides : (owner slot : ℕ) → IsIn slot (list_of lists owner) → IsSide clauses lists owner slot
  pub distinct : All OnlyOnce clauses
  pub within : All (All (λ lit. place_of lit < length lists)) clauses

-- an arena holds these clauses and links, and has at least this room
pub record IsArena (clauses : Clauses) (links : Links) (clauses_left lits_left : ℕ) : Type 0 where
  pub are_slots : AreSlots clauses.lists links.slots links.lists
  pub few_lists : length links.lists ≤ 4294967295
  pub few_slots : links.slots ≤ 4294967295
  pub clauses_room : clauses_left ≤ clauses.lists_left
  pub links_room : clauses_left ≤ links.room
  pub lits_room : lits_left ≤ clauses.lits_left

-- the lists with the slots of one more clause, in front of those of its first literal and of its second
abbrev pub linking : List (List ℕ) → List Lit → ℕ → List (List ℕ)
linking lists (first ∷ second ∷ rest) slot = lists_with (lists_with lists (place_of first) slot) (place_of second) (slot + 1)
linking lists lits slot = lists

-- the slot is one of another clause
abbrev pub is_of_other : ℕ → ℕ → Bool
is_of_other clause slot = is_other clause (clause_of slot)
