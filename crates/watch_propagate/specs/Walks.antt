-- What a walk over the clauses that watch a literal does, clause by clause.
use Rattle.std.specs.Prelude.{◌≡◌, ◌≢◌, ℕ, Contains, Some, slice_get}
use Rattle.currency_base.specs.Literals.{negation}
use Rattle.currency_base.specs.declared.lit.Lit.{Lit}
use Rattle.watch_links.specs.Links.{without}
use Rattle.clause_arena.specs.Arenas.{Arena, IsWatched, watchers_of}
use Rattle.search_trail.specs.Trails.{Trail, lits_of}
use Rattle.watch_propagate.specs.WatchRule.{Implies, IsRewatched, KeepsWatch}

-- watches were moved and literals implied, the watch rule is kept, and no entry was gone through
pub record GoesOn (old new : Arena) (was is : Trail) : Type 0 where
  pub rewatched : IsRewatched old new
  pub implies : Implies new was is
  pub gone : is.gone ≡ was.gone
  pub rule : KeepsWatch new is

-- if the clause watches the literal, then the other literal that it watches is true
pub record IsSeenTo (a : Arena) (t : Trail) (lit : Lit) (clause : ℕ) : Type 0 where
  pub first : (w : IsWatched a clause) → w.first ≡ lit → Contains (lits_of t) w.second
  pub second : (w : IsWatched a clause) → w.second ≡ lit → Contains (lits_of t) w.first

-- what else was seen to still is
abbrev pub KeepsOthers : (old new : Arena) (was is : Trail) (lit : Lit) (clause : ℕ) → Type 0
KeepsOthers old new was is lit clause = (other : ℕ) → other ≢ clause → IsSeenTo old was lit other → IsSeenTo new is lit other

-- a clause that watches a literal was seen to, and watches it still
abbrev pub SeesTo : (old new : Arena) (is : Trail) (lit : Lit) (clause : ℕ) → Type 0
SeesTo old new is lit clause = (watchers_of new lit ≡ watchers_of old lit) × IsSeenTo new is lit clause

-- or it watches the literal no more
abbrev pub GoesOff : (old new : Arena) (lit : Lit) (clause : ℕ) → Type 0
GoesOff old new lit clause = watchers_of new lit ≡ without clause (watchers_of old lit)

-- the literal has become false, of which the first literal that was not gone through tells
abbrev pub IsPending : Trail → Lit → Type 0
IsPending t lit = slice_get (lits_of t) t.gone ≡ Some (negation lit)
