-- When a clause follows with hints from earlier clauses.
use Rattle.std.specs.Prelude.{◌≡◌, ◌≢◌, ◌⊎◌, ◌<◌, ◌≤◌, ◌+◌, ℕ, List, [], ◌∷◌, ◌++◌, length, map, take, All, Contains, Some, slice_get, slice_index_or}
use Rattle.currency_base.specs.Literals.{negation}
use Rattle.currency_base.specs.declared.lit.Lit.{Lit}

-- each literal of the clause is among those that are false
abbrev pub AreFalse : List Lit → List Lit → Type 0
AreFalse falses clause = (lit : Lit) → Contains clause lit → Contains falses lit

-- of a clause's literals, one is not among those that are false, and each other one is
pub record IsOnlyOpen (falses clause : List Lit) (lit : Lit) : Type 0 where
  pub is_in : Contains clause lit
  pub is_open : Contains falses lit → ⊥
  pub others : (other : Lit) → Contains clause other → other ≢ lit → Contains falses other

-- going through the clauses, where at most one literal of each is not among those that are false, its negation joins them,
-- and in the end these are false
abbrev pub Falsifies : List Lit → List (List Lit) → List Lit → Type 0
Falsifies falses [] all = falses ≡ all
Falsifies falses (clause ∷ clauses) all =
    (AreFalse falses clause × Falsifies falses clauses all)
    ⊎ ((lit : Lit) × IsOnlyOpen falses clause lit × Falsifies (falses ++ negation lit ∷ []) clauses all)

-- a clause follows with these: its literals and what all but the last falsify make each literal of the last false
pub record Follows (clause : List Lit) (hints : List (List Lit)) : Type 0 where
  pub front : List (List Lit)
  pub last : List Lit
  pub hints_are : hints ≡ front ++ last ∷ []
  pub falses : List Lit
  pub falsified : Falsifies clause front falses
  pub conflict : AreFalse falses last

-- the earlier clause of that number
abbrev pub clause_at : List (List Lit) → ℕ → List Lit
clause_at earlier hint = slice_index_or earlier hint []

-- the earlier clauses of these numbers
abbrev pub clauses_at : List (List Lit) → List ℕ → List (List Lit)
clauses_at earlier hints = map (clause_at earlier) hints

-- each hint is the number of an earlier clause
abbrev pub AreEarlier : List (List Lit) → List ℕ → Type 0
AreEarlier earlier hints = All (λ hint. hint < length earlier) hints

-- a clause follows from earlier clauses with hints, which are numbers of such
pub record FollowsFrom (earlier : List (List Lit)) (clause : List Lit) (hints : List ℕ) : Type 0 where
  pub known : AreEarlier earlier hints
  pub follows : Follows clause (clauses_at earlier hints)

-- ---- what fails

-- the hints before a place can all be used, and falsify these literals
pub record IsReached (earlier : List (List Lit)) (clause : List Lit) (hints : List ℕ) (place : ℕ)
    (falses : List Lit) : Type 0 where
  pub within : place ≤ length hints
  pub known : AreEarlier earlier (take place hints)
  pub falsified : Falsifies clause (clauses_at earlier (take place hints)) falses

-- two literals of a clause are not among those that are false
pub record HasTwoOpen (falses clause : List Lit) : Type 0 where
  pub first : Lit
  pub second : Lit
  pub differ : first ≢ second
  pub first_in : Contains clause first
  pub second_in : Contains clause second
  pub first_open : Contains falses first → ⊥
  pub second_open : Contains falses second → ⊥

-- the hint at a place is the first that fails: there is no such earlier clause
pub record IsUnknownHint (earlier : List (List Lit)) (clause : List Lit) (hints : List ℕ) (place : ℕ) : Type 0 where
  pub falses : List Lit
  pub reached : IsReached earlier clause hints place falses
  pub hint : ℕ
  pub is_hint : slice_get hints place ≡ Some hint
  pub unknown : length earlier ≤ hint

-- the hint at a place is the first that fails: it is not the last, and two literals of its clause are not false
pub record IsNoUnit (earlier : List (List Lit)) (clause : List Lit) (hints : List ℕ) (place : ℕ) : Type 0 where
  pub falses : List Lit
  pub reached : IsReached earlier clause hints place falses
  pub hint : ℕ
  pub is_hint : slice_get hints place ≡ Some hint
  pub known : hint < length earlier
  pub not_last : place + 1 < length hints
  pub open_two : HasTwoOpen falses (clause_at earlier hint)

-- the last hint fails: a literal of its clause is not false
pub record IsNoConflict (earlier : List (List Lit)) (clause : List Lit) (hints : List ℕ) : Type 0 where
  pub place : ℕ
  pub is_last : place + 1 ≡ length hints
  pub falses : List Lit
  pub reached : IsReached earlier clause hints place falses
  pub hint : ℕ
  pub is_hint : slice_get hints place ≡ Some hint
  pub known : hint < length earlier
  pub lit : Lit
  pub is_in : Contains (clause_at earlier hint) lit
  pub is_open : Contains falses lit → ⊥

-- no hint comes to a conflict: there is none, or the last one fails
abbrev pub ComesToNoConflict : List (List Lit) → List Lit → List ℕ → Type 0
ComesToNoConflict earlier clause hints = (hints ≡ []) ⊎ IsNoConflict earlier clause hints
