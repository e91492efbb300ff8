-- What is learned from a conflict: a clause, and the numbers of clauses by which it follows.
use Rattle.std.specs.Prelude.{◌≡◌, ◌<◌, ◌-◌, ℕ, List, All, Contains, Some, length, take, slice_get}
use Rattle.currency_base.specs.Lists.{OnlyOnce}
use Rattle.currency_base.specs.Literals.{var_of, negation}
use Rattle.currency_base.specs.declared.lit.Lit.{Lit}
use Rattle.clause_arena.specs.Arenas.{Arena}
use Rattle.search_trail.specs.Trails.{Trail, entries_up_to, lits_of, undone}
use Rattle.refutation_log.specs.Follows.{AreEarlier, Follows, clauses_at}
use Rattle.refutation_log.specs.Counted.{IsUnit}
use Rattle.lean_hints.specs.Lean.{AreLean}
use Rattle.watch_propagate.specs.WatchRule.{IsDueTo}

-- over so many variables: a clause, the numbers of the clauses by which it follows, in the order in which they are
-- used, the level to which it leads back, and the places of the trail's literals that were resolved
pub record Learned : Type 0 where
  pub vars : ℕ
  pub lits : List Lit
  pub hints : List ℕ
  pub back : ℕ
  pub resolved : List ℕ

-- ---- conflicts

-- all literals of the clause of that number are false
pub record IsFalsified (a : Arena) (t : Trail) (clause : ℕ) : Type 0 where
  pub lits : List Lit
  pub is_clause : slice_get a.clauses clause ≡ Some lits
  pub all_false : (lit : Lit) → Contains lits lit → Contains (lits_of t) (negation lit)

-- the literals that are true below the current level
abbrev pub lits_below : Trail → List Lit
lits_below t = take (entries_up_to t (length t.starts - 1)) (lits_of t)

-- a literal of the clause of that number is not false below the current level
pub record IsOfLevel (a : Arena) (t : Trail) (clause : ℕ) : Type 0 where
  pub lits : List Lit
  pub is_clause : slice_get a.clauses clause ≡ Some lits
  pub lit : Lit
  pub is_in : Contains lits lit
  pub not_below : Contains (lits_below t) (negation lit) → ⊥

-- ---- what is learned

-- a clause of a trail's variables, with no literal twice, follows with its hints, no hint twice, and each but the last adds a
-- literal
pub record IsDerived (a : Arena) (t : Trail) (lits : List Lit) (hints : List ℕ) : Type 0 where
  pub known : AreEarlier a.clauses hints
  pub follows : Follows lits (clauses_at a.clauses hints)
  pub lean : AreLean a.clauses lits hints
  pub lits_once : OnlyOnce lits
  pub within : All (λ lit. var_of lit < t.vars) lits

-- the clause of a conflict at the current level: it follows; its first literal is open and the others are false, below
-- that level and at the level to which it leads back; and its second literal is false by that level alone, so that the
-- first two may be watched there
pub record IsLearned (a : Arena) (t : Trail) (l : Learned) : Type 0 where
  pub derived : IsDerived a t l.lits l.hints
  pub lower : l.back < length t.starts
  pub first : Lit
  pub is_first : slice_get l.lits 0 ≡ Some first
  pub unit_below : IsUnit (lits_below t) l.lits first
  pub unit_back : IsUnit (lits_of (undone t l.back)) l.lits first
  pub due : IsDueTo (undone t l.back) l.lits
  pub were_true : All (λ place. place < length t.entries) l.resolved

-- the literal was assumed: it opened a level
pub record IsAssumed (t : Trail) (lit : Lit) : Type 0 where
  pub level : ℕ
  pub start : ℕ
  pub is_start : slice_get t.starts level ≡ Some start
  pub is_there : slice_get (lits_of t) start ≡ Some lit

-- each literal of the clause is the negation of one that was assumed
abbrev pub AreOfAssumed : Trail → List Lit → Type 0
AreOfAssumed t lits = (lit : Lit) → Contains lits lit → IsAssumed t (negation lit)
