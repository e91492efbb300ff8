-- Arenas of clauses: the clauses, and for each literal the clauses that watch it.
use Rattle.std.specs.Prelude.{◌≡◌, ◌==◌, ◌⊎◌, ◌<◌, ◌+◌, ◌*◌, ℕ, Bool, not, if◌then◌else◌, List, ◌∷◌, All, Some, length, slice_get, slice_set}
use Rattle.currency_base.specs.Lists.{OnlyOnce}
use Rattle.currency_base.specs.Literals.{var_of, is_negative}
use Rattle.currency_base.specs.declared.lit.Lit.{Lit}
use Rattle.watch_links.specs.Links.{IsIn, HasNoneTwice, list_of, lists_with, lists_without}

-- the clauses; by the places of the literals, which are two for each variable (the variable's and then its negation's), the
-- numbers of the clauses that watch each; and for how many more clauses and literals there is room
pub record Arena : Type 0 where
  pub clauses : List (List Lit)
  pub watchers : List (List ℕ)
  pub clauses_left : ℕ
  pub lits_left : ℕ

-- the place of a literal
abbrev pub place_of : Lit → ℕ
place_of lit = 2 * var_of lit + (if is_negative lit then 1 else 0)

-- the clauses that watch a literal, in the order of a walk
abbrev pub watchers_of : Arena → Lit → List ℕ
watchers_of a lit = list_of a.watchers (place_of lit)

-- the literals are of the arena's variables
abbrev pub AreWithin : Arena → List Lit → Type 0
AreWithin a lits = All (λ lit. place_of lit < length a.watchers) lits

-- a clause watches the first two of its literals
pub record IsWatched (a : Arena) (clause : ℕ) : Type 0 where
  pub lits : List Lit
  pub is_clause : slice_get a.clauses clause ≡ Some lits
  pub first : Lit
  pub second : Lit
  pub is_first : slice_get lits 0 ≡ Some first
  pub is_second : slice_get lits 1 ≡ Some second
  pub by_first : IsIn clause (watchers_of a first)
  pub by_second : IsIn clause (watchers_of a second)

-- the watchers with one more clause, in front of those of its first literal and of its second; a clause of fewer literals is not
-- watched
abbrev pub watching : List (List ℕ) → List Lit → ℕ → List (List ℕ)
watching watchers (first ∷ second ∷ rest) clause = lists_with (lists_with watchers (place_of first) clause)
    (place_of second) clause
watching watchers lits clause = watchers

-- the arena with the watch of a clause moved from one of its literals to another, these two having changed places
pub record MovesWatch (old new : Arena) (clause from to : ℕ) : Type 0 where
  pub lits : List Lit
  pub is_clause : slice_get old.clauses clause ≡ Some lits
  pub left : Lit
  pub taken : Lit
  pub is_left : slice_get lits from ≡ Some left
  pub is_taken : slice_get lits to ≡ Some taken
  pub clauses : new.clauses ≡ slice_set old.clauses clause (slice_set (slice_set lits from taken) to left)
  pub watchers : new.watchers ≡ lists_with (lists_without old.watchers (place_of left) clause) (place_of taken) clause

-- the number is not that of this clause
abbrev pub is_other : ℕ → ℕ → Bool
is_other clause number = not (number == clause)

-- what is true of an arena at any moment: a clause stands once among the watchers of a literal, and watches the first two of
-- its literals, both or none
pub record AreWatchers (a : Arena) : Type 0 where
  pub once : (lit : Lit) → HasNoneTwice (watchers_of a lit)
  pub watched : (lit : Lit) (clause : ℕ) → IsIn clause (watchers_of a lit) → IsWatched a clause
  pub among : (lit : Lit) (clause : ℕ) (w : IsWatched a clause) → IsIn clause (watchers_of a lit) → (lit ≡ w.first) ⊎
      (lit ≡ w.second)
  pub distinct : All OnlyOnce a.clauses
  pub within : All (AreWithin a) a.clauses
