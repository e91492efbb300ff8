-- The watch rule, and what unit propagation does to an arena and a trail.
use Rattle.std.specs.Prelude.{◌≡◌, ◌⊎◌, ◌≤◌, ℕ, List, [], ◌∷◌, ◌++◌, Contains, Some, length, map, take, slice_get}
use Rattle.currency_base.specs.Literals.{negation}
use Rattle.currency_base.specs.declared.lit.Lit.{Lit}
use Rattle.clause_arena.specs.Arenas.{Arena, IsWatched, watching}
use Rattle.search_trail.specs.Trails.{Entry, Trail, IsReason, lits_of}
use Rattle.refutation_log.specs.Counted.{IsAtRest, IsOpen}

-- ---- at rest, and at a conflict

-- unit propagation over the watched clauses is at rest, where these literals are true
abbrev pub AreAtRest : Arena → List Lit → Type 0
AreAtRest a truths = (clause : ℕ) (w : IsWatched a clause) → IsAtRest truths w.lits

-- a watched clause whose literals are all false
pub record IsConflict (a : Arena) (truths : List Lit) (clause : ℕ) : Type 0 where
  pub watched : IsWatched a clause
  pub all_false : (lit : Lit) → Contains watched.lits lit → Contains truths (negation lit)

-- ---- the watch rule

-- of two watched literals, where one was found false, the other is true
pub record IsGuarded (found truths : List Lit) (first second : Lit) : Type 0 where
  pub first_false : Contains found (negation first) → Contains truths second
  pub second_false : Contains found (negation second) → Contains truths first

-- so it is with the entries that have been gone through, and so it was where each level began
pub record AreGuarded (t : Trail) (first second : Lit) : Type 0 where
  pub at_present : IsGuarded (take t.gone (lits_of t)) (lits_of t) first second
  pub at_starts : (i start : ℕ) → slice_get t.starts i ≡ Some start
      → IsGuarded (take start (lits_of t)) (take start (lits_of t)) first second

-- the watch rule: levels begin behind entries that have been gone through, and of the two watched literals of a clause,
-- where one is false by an entry that has been gone through, the other is true, at a level no higher
pub record KeepsWatch (a : Arena) (t : Trail) : Type 0 where
  pub passed : (i start : ℕ) → slice_get t.starts i ≡ Some start → start ≤ t.gone
  pub guarded : (clause : ℕ) (w : IsWatched a clause) → AreGuarded t w.first w.second

-- ---- reasons

-- the clause of that number has the literal, and its others are false by these
pub record HasReason (a : Arena) (earlier : List Lit) (lit : Lit) (clause : ℕ) : Type 0 where
  pub lits : List Lit
  pub is_clause : slice_get a.clauses clause ≡ Some lits
  pub is_reason : IsReason lits earlier lit

-- the literals of the entries before a place
abbrev pub lits_before : List Entry → ℕ → List Lit
lits_before entries place = map (λ e. e.lit) (take place entries)

-- each entry with a reason was implied: the clause has its literal, and the others are false by earlier entries
abbrev pub AreReasons : Arena → List Entry → Type 0
AreReasons a entries = (place : ℕ) (e : Entry) (clause : ℕ) → slice_get entries place ≡ Some e → e.reason ≡ Some clause
    → HasReason a (lits_before entries place) e.lit clause

-- the entry at a place was implied
pub record IsImplied (a : Arena) (entries : List Entry) (place : ℕ) (e : Entry) : Type 0 where
  pub clause : ℕ
  pub is_reason : e.reason ≡ Some clause
  pub by_clause : HasReason a (lits_before entries place) e.lit clause

-- ---- what unit propagation does

-- the same literals, in whatever order
pub record AreSameLits (xs ys : List Lit) : Type 0 where
  pub none_lost : (lit : Lit) → Contains xs lit → Contains ys lit
  pub none_new : (lit : Lit) → Contains ys lit → Contains xs lit
  pub as_many : length ys ≡ length xs

-- the same clauses, but for the order of their literals
pub record AreReordered (old new : List (List Lit)) : Type 0 where
  pub as_many : length new ≡ length old
  pub same : (clause : ℕ) (xs ys : List Lit) → slice_get old clause ≡ Some xs → slice_get new clause ≡ Some ys → AreSameLits xs ys

-- the same clauses, of which the same are watched, and the same room
pub record IsRewatched (old new : Arena) : Type 0 where
  pub clauses : AreReordered old.clauses new.clauses
  pub still : (clause : ℕ) → IsWatched old clause → IsWatched new clause
  pub no_more : (clause : ℕ) → IsWatched new clause → IsWatched old clause
  pub lists : length new.watchers ≡ length old.watchers
  pub clauses_left : new.clauses_left ≡ old.clauses_left
  pub lits_left : new.lits_left ≡ old.lits_left

-- entries were added at the current level, each implied by a clause of the arena
pub record Implies (a : Arena) (old new : Trail) : Type 0 where
  pub vars : new.vars ≡ old.vars
  pub scope : new.scope ≡ old.scope
  pub starts : new.starts ≡ old.starts
  pub gone : old.gone ≤ new.gone
  pub added : List Entry
  pub entries : new.entries ≡ old.entries ++ added
  pub implied : (place : ℕ) (e : Entry) → length old.entries ≤ place → slice_get new.entries place ≡ Some e
      → IsImplied a new.entries place e

-- ---- a clause that is added

-- the arena with one more clause, which watches its first two literals
pub record HasAdded (old new : Arena) (lits : List Lit) : Type 0 where
  pub clauses : new.clauses ≡ old.clauses ++ lits ∷ []
  pub watchers : new.watchers ≡ watching old.watchers lits (length old.clauses)

-- a clause of two literals or more whose first is open, and whose second is not false by what came before the current level
abbrev pub IsDueTo : Trail → List Lit → Type 0
IsDueTo t lits = (first second : Lit) (rest : List Lit) → lits ≡ first ∷ second ∷ rest
    → IsOpen (lits_of t) first
    × ((i start : ℕ) → slice_get t.starts i ≡ Some start → Contains (take start (lits_of t)) (negation second) → ⊥)

-- a clause of two literals or more whose first is true, or whose first two are open
abbrev pub IsQuiet : Trail → List Lit → Type 0
IsQuiet t lits = (first second : Lit) (rest : List Lit) → lits ≡ first ∷ second ∷ rest
    → Contains (lits_of t) first ⊎ (IsOpen (lits_of t) first × IsOpen (lits_of t) second)
