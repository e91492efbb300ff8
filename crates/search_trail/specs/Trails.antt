-- Trails: the literals that are true, in the order in which they came, level by level.
use Rattle.std.specs.Prelude.{◌≡◌, ◌≢◌, ◌==◌, ◌<◌, ◌≤◌, ◌+◌, min, ℕ, Bool, not, if◌then◌else◌, List, [], ◌∷◌, ◌++◌, All, Contains, Option, Some, None, length, map, take, slice_get, slice_index_or}
use Rattle.std.specs.List.{count_by, list_any, range_with_len}
use Rattle.currency_base.specs.Lists.{OnlyOnce}
use Rattle.currency_base.specs.Literals.{var_of, is_negative, negation}
use Rattle.currency_base.specs.declared.lit.Lit.{Lit}
use Rattle.std.specs.Prelude.{nat_le}

-- an entry of a trail: a literal that is true, and the number of the clause that implied it; none where it was assumed
pub record Entry : Type 0 where
  pub lit : Lit
  pub reason : Option ℕ

-- how many variables there are; the entries, in the order in which they came; where each level above 0 begins, the lowest level
-- first; how many entries have been gone through; and the scope, the variables that a search gives values, ascending
pub record Trail : Type 0 where
  pub vars : ℕ
  pub entries : List Entry
  pub starts : List ℕ
  pub gone : ℕ
  pub scope : List ℕ

-- the literals that are true, in the order in which they came
abbrev pub lits_of : Trail → List Lit
lits_of t = map (λ e. e.lit) t.entries

-- ---- values

-- the value that literals give a variable, if they do
abbrev pub value_in : List Lit → ℕ → Option Bool
value_in [] var = None
value_in (lit ∷ lits) var = if var_of lit == var then Some (not (is_negative lit)) else value_in lits var

-- the value of each variable, if it has one, and the scope
pub record ScopedValues : Type 0 where
  pub given : List (Option Bool)
  pub scope : List ℕ

-- what a trail says of its variables
abbrev pub values_of : Trail → ScopedValues
values_of t = record { given = map (value_in (lits_of t)) (range_with_len 0 t.vars); scope = t.scope }

-- a variable has no value
abbrev pub IsFree : Trail → ℕ → Type 0
IsFree t var = value_in (lits_of t) var ≡ None

-- ---- scopes

-- numbers ascend
abbrev pub Ascend : List ℕ → Type 0
Ascend xs = (i j low high : ℕ) → i < j → slice_get xs i ≡ Some low → slice_get xs j ≡ Some high → low < high

-- some of so many variables, ascending
pub record IsScope (vars : ℕ) (scope : List ℕ) : Type 0 where
  pub ascend : Ascend scope
  pub within : (i var : ℕ) → slice_get scope i ≡ Some var → var < vars

-- all of so many variables
abbrev pub whole_scope : ℕ → List ℕ
whole_scope vars = range_with_len 0 vars

-- a variable is of the scope
abbrev pub is_in_scope : List ℕ → ℕ → Bool
is_in_scope scope var = list_any (λ x. x == var) scope

-- a variable of the scope has no value
pub record IsFreeInScope (values : ScopedValues) (var : ℕ) : Type 0 where
  pub is_in : Contains values.scope var
  pub free : slice_get values.given var ≡ Some None

-- no variable of the scope is free
abbrev pub HasNoFree : ScopedValues → Type 0
HasNoFree values = (var : ℕ) → IsFreeInScope values var → ⊥

-- the first variable of the scope with no value
pub record IsFirstFree (values : ScopedValues) (var : ℕ) : Type 0 where
  pub is_free : IsFreeInScope values var
  pub earlier : (other : ℕ) → other < var → IsFreeInScope values other → ⊥

-- ---- levels and reasons

-- the entry of a variable stands at a place
pub record StandsAt (t : Trail) (var place : ℕ) : Type 0 where
  pub entry : Entry
  pub is_entry : slice_get t.entries place ≡ Some entry
  pub is_of : var_of entry.lit ≡ var

-- the level of the entry at a place: how many levels begin up to it
abbrev pub level_at : Trail → ℕ → ℕ
level_at t place = count_by (λ start. nat_le start place) t.starts

-- the clause that implied a variable's literal, if one did
abbrev pub reason_in : List Entry → ℕ → Option ℕ
reason_in [] var = None
reason_in (e ∷ es) var = if var_of e.lit == var then e.reason else reason_in es var

-- a clause is the reason of a literal: it has the literal, and its others are false by these literals
pub record IsReason (clause : List Lit) (earlier : List Lit) (lit : Lit) : Type 0 where
  pub is_in : Contains clause lit
  pub others : (other : Lit) → Contains clause other → other ≢ lit → Contains earlier (negation other)

-- ---- changes

-- the trail with a literal that opens a level
abbrev pub assumed : Trail → Lit → Trail
assumed t lit = record t {
  entries = t.entries ++ record { lit = lit; reason = None } ∷ [];
  starts = t.starts
      ++ length t.entries ∷ [];
}

-- the trail with a literal that a clause implies
abbrev pub implied : Trail → Lit → ℕ → Trail
implied t lit clause = record t { entries = t.entries ++ record { lit = lit; reason = Some clause } ∷ [] }

-- the trail with another scope
abbrev pub focused : Trail → List ℕ → Trail
focused t scope = record t { scope = scope }

-- an entry, with a clause as its reason if it is of a variable
abbrev pub with_reason : ℕ → ℕ → Entry → Entry
with_reason var clause e = if var_of e.lit == var then record { lit = e.lit; reason = Some clause } else e

-- the trail where a clause has become the reason of a variable's literal
abbrev pub rebased : Trail → ℕ → ℕ → Trail
rebased t var clause = record t { entries = map (with_reason var clause) t.entries }

-- the trail with one more entry gone through
abbrev pub passed : Trail → Trail
passed t = record t { gone = t.gone + 1 }

-- how many entries the levels up to one have
abbrev pub entries_up_to : Trail → ℕ → ℕ
entries_up_to t level = slice_index_or t.starts level (length t.entries)

-- the trail without the levels above one
abbrev pub undone : Trail → ℕ → Trail
undone t level = record t {
  entries = take (entries_up_to t level) t.entries;
  starts = take level t.starts;
  gone = min t.gone (entries_up_to t level);
}

-- ---- at any moment

-- each variable stands in one entry at most; levels begin one after another, each with an entry; an entry with no
-- reason opens a level
pub record AreEntries (t : Trail) : Type 0 where
  pub few : t.vars ≤ 2147483648
  pub within : All (λ e. var_of e.lit < t.vars) t.entries
  pub once : OnlyOnce (map (λ e. var_of e.lit) t.entries)
  pub ascend : (i j low high : ℕ) → i < j → slice_get t.starts i ≡ Some low → slice_get t.starts j ≡ Some high → low < high
  pub begun : (i start : ℕ) → slice_get t.starts i ≡ Some start → start < length t.entries
  pub assumed : (place : ℕ) (e : Entry) → slice_get t.entries place ≡ Some e → e.reason ≡ None →
      (i : ℕ) × (slice_get t.starts i ≡ Some place)
  pub gone : t.gone ≤ length t.entries
