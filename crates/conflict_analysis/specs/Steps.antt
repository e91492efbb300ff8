-- Steps of an analysis: what has been met, what became of it, and by what law the clause follows in the end.
use Rattle.std.specs.Prelude.{◌≡◌, ◌≢◌, ◌⊎◌, ◌<◌, ◌≤◌, ◌++◌, ◌+◌, ◌==◌, ⊤, not, map, unwrap_or, min, ℕ, Bool, true, false, nat_le, is_some, if◌then◌else◌, List, [], ◌∷◌, Contains, Option, Some, None, IfNone, slice_get, slice_set, slice_index_or, length}
use Rattle.std.specs.List.{filter}
use Rattle.std.specs.Option.{option_and_then, option_to_list}
use Rattle.currency_base.specs.Lists.{OnlyOnce}
use Rattle.currency_base.specs.Literals.{var_of, negation}
use Rattle.currency_base.specs.declared.lit.Lit.{Lit}
use Rattle.search_trail.specs.Trails.{Entry, StandsAt, Trail, level_at}
use Rattle.clause_arena.specs.Arenas.{Arena}
use Rattle.watch_propagate.specs.WatchRule.{AreReasons}

-- ---- lists

-- strictly ascending
abbrev pub Rises : List ℕ → Type 0
Rises [] = ⊤
Rises (p ∷ ps) = ((q : ℕ) → Contains ps q → p < q) × Rises ps

-- ---- what has been met

-- by place of the trail, whether it was met; the places between two bounds, which may yet be dropped; those that were
-- resolved with their reasons; those whose negations are in the clause; and the lowest one of the current level
pub record State : Type 0 where
  pub seen : List Bool
  pub kept : List ℕ
  pub resolved : List ℕ
  pub leaves : List ℕ
  pub low : ℕ

-- the clause that implied the entry at a place
abbrev pub reason_of : List Entry → ℕ → Option ℕ
reason_of entries place = option_and_then (λ e. e.reason) (slice_get entries place)

-- the place is met
abbrev pub IsSeen : List Bool → ℕ → Type 0
IsSeen seen place = slice_index_or seen place false ≡ true

-- a place that is new goes into one of the lists, or lowers the mark
abbrev pub taking : List Entry → ℕ → ℕ → ℕ → State → State
taking entries base level place s =
    if nat_le level place then record {
      seen = slice_set s.seen place true;
      kept = s.kept;
      resolved =
          s.resolved;
      leaves = s.leaves;
      low = min s.low place;
    }
    else (if nat_le base place then record {
      seen = slice_set s.seen place true;
      kept = s.kept ++ place
          ∷ [];
      resolved = s.resolved;
      leaves = s.leaves;
      low = s.low;
    }
    else (if is_some (reason_of entries place) then record {
      seen = slice_set s.seen place true;
      kept =
          s.kept;
      resolved = s.resolved ++ place ∷ [];
      leaves = s.leaves;
      low = s.low;
    }
    else record {
      seen = slice_set s.seen place true;
      kept = s.kept;
      resolved = s.resolved;
      leaves = s.leaves
          ++ place ∷ [];
      low = s.low;
    }))

-- a place is met, where it has not been yet
abbrev pub meeting : List Entry → ℕ → ℕ → ℕ → State → State
meeting entries base level place s = if slice_index_or s.seen place false then s else taking entries base level place s

-- a place that was met already is resolved, or its negation goes into the clause
abbrev pub resolving : State → ℕ → State
resolving s place = record { seen = s.seen; kept = s.kept; resolved = s.resolved ++ place ∷ []; leaves = s.leaves; low = s.low }

abbrev pub leaving : State → ℕ → State
leaving s place = record { seen = s.seen; kept = s.kept; resolved = s.resolved; leaves = s.leaves ++ place ∷ []; low = s.low }

-- the last place of those that may yet be dropped was taken out, if there was one
pub record PopsKept (old new : State) (last : Option ℕ) : Type 0 where
  pub seen : new.seen ≡ old.seen
  pub kept : old.kept ≡ new.kept ++ option_to_list last
  pub resolved : new.resolved ≡ old.resolved
  pub leaves : new.leaves ≡ old.leaves
  pub low : new.low ≡ old.low
  pub none : IfNone last (old.kept ≡ [])

-- ---- what is true of it

-- what became of a place: it is in one of the lists, or it is of the current level and below a place
pub data Fate (level at : ℕ) (s : State) (place : ℕ) : Type 0 where
  is_kept : Contains s.kept place → Fate level at s place
  is_resolved : Contains s.resolved place → Fate level at s place
  is_leaf : Contains s.leaves place → Fate level at s place
  waits : level ≤ place → place < at → Fate level at s place

-- the variables of a clause's literals were met, or stand below a place
abbrev pub AreSeen : List Entry → List Bool → ℕ → List Lit → Type 0
AreSeen entries seen below lits = (o : Lit) → Contains lits o → (place : ℕ) (e : Entry) → slice_get entries place ≡
    Some e → var_of e.lit ≡ var_of o
    → IsSeen seen place ⊎ (place < below)

-- so it is with the clause that implied the entry at a place
pub record HasSeen (a : Arena) (entries : List Entry) (seen : List Bool) (below place : ℕ) : Type 0 where
  pub entry : Entry
  pub is_entry : slice_get entries place ≡ Some entry
  pub clause : ℕ
  pub is_reason : entry.reason ≡ Some clause
  pub lits : List Lit
  pub is_clause : slice_get a.clauses clause ≡ Some lits
  pub are_seen : AreSeen entries seen below lits

-- of a place that may yet be dropped
pub record IsKept (base level : ℕ) (s : State) (place : ℕ) : Type 0 where
  pub seen : IsSeen s.seen place
  pub above : base ≤ place
  pub below : place < level
  pub not_resolved : Contains s.resolved place → ⊥
  pub no_leaf : Contains s.leaves place → ⊥

-- of one that was resolved
pub record IsResolved (a : Arena) (entries : List Entry) (base level at : ℕ) (s : State) (place : ℕ) : Type 0 where
  pub seen : IsSeen s.seen place
  pub reason : HasSeen a entries s.seen level place
  pub away : (place < level) ⊎ ((at ≤ place) × HasSeen a entries s.seen 0 place)

-- and of one whose negation is in the clause
pub record IsLeaf (entries : List Entry) (base level : ℕ) (s : State) (place : ℕ) : Type 0 where
  pub seen : IsSeen s.seen place
  pub below : place < level
  pub left : (base ≤ place) ⊎ (reason_of entries place ≡ None)

-- each place that was met is in one list alone, once; those of the current level are resolved from one place on, and wait
-- below it
pub record AreMet (a : Arena) (entries : List Entry) (base level at : ℕ) (s : State) : Type 0 where
  pub fate : (place : ℕ) → IsSeen s.seen place → Fate level at s place
  pub kept : (place : ℕ) → Contains s.kept place → IsKept base level s place
  pub resolved : (place : ℕ) → Contains s.resolved place → IsResolved a entries base level at s place
  pub leaves : (place : ℕ) → Contains s.leaves place → IsLeaf entries base level s place
  pub apart : (place : ℕ) → Contains s.resolved place → Contains s.leaves place → ⊥
  pub kept_once : OnlyOnce s.kept
  pub resolved_once : OnlyOnce s.resolved
  pub leaves_once : OnlyOnce s.leaves
  pub lowest : (place : ℕ) → IsSeen s.seen place → level ≤ place → s.low ≤ place
  pub low_seen : s.low < length s.seen → IsSeen s.seen s.low
  pub low_above : s.low < length s.seen → level ≤ s.low

-- ---- what is done

-- the literal's variable has an entry
abbrev pub IsAssigned : Trail → Lit → Type 0
IsAssigned t lit = (place : ℕ) × StandsAt t (var_of lit) place

-- the places of a clause's literals are met, and all else stays true, from any place up to the base on; where those that
-- were not are below the base, no place is kept and the mark stays
pub record MeetsAll (entries : List Entry) (base level : ℕ) (lits : List Lit) (old new : State) : Type 0 where
  pub long : length new.seen ≡ length old.seen
  pub seen : AreSeen entries new.seen 0 lits
  pub still : (place : ℕ) → IsSeen old.seen place → IsSeen new.seen place
  pub added : List ℕ
  pub resolved : new.resolved ≡ old.resolved ++ added
  pub low : new.low ≤ old.low
  pub quiet : AreSeen entries old.seen base lits → base ≤ level → (new.kept ≡ old.kept) × (new.low ≡ old.low)
  pub met : (a : Arena) (floor at : ℕ) → AreReasons a entries → floor ≤ base → base ≤ level → AreMet a entries floor level at old
      → AreSeen entries old.seen at lits
      → AreMet a entries floor level at new

-- the entry at a place was implied
abbrev pub IsReasoned : List Entry → ℕ → Type 0
IsReasoned entries place = (clause : ℕ) × (reason_of entries place ≡ Some clause)

-- each entry above a place was implied
abbrev pub AreReasoned : List Entry → ℕ → Type 0
AreReasoned entries level = (place : ℕ) → level < place → place < length entries → IsReasoned entries place

-- so it is with the literals of the clause that implied the entry at a place
pub record MeetsReason (a : Arena) (entries : List Entry) (base level place : ℕ) (old new : State) : Type 0 where
  pub entry : Entry
  pub is_entry : slice_get entries place ≡ Some entry
  pub clause : ℕ
  pub is_reason : entry.reason ≡ Some clause
  pub lits : List Lit
  pub is_clause : slice_get a.clauses clause ≡ Some lits
  pub meets : MeetsAll entries base level lits old new

-- a place of the current level is resolved, if it was met
pub record Passes (a : Arena) (entries : List Entry) (base level place : ℕ) (old new : State) : Type 0 where
  pub low : new.low ≤ old.low
  pub still : (q : ℕ) → IsSeen old.seen q → IsSeen new.seen q
  pub met : AreMet a entries base level (place + 1) old → AreMet a entries base level place new

-- places of the current level were resolved down to the lowest one
pub record Walks (a : Arena) (entries : List Entry) (base level : ℕ) (old new : State) : Type 0 where
  pub still : (q : ℕ) → IsSeen old.seen q → IsSeen new.seen q
  pub low : new.low < length entries
  pub met : AreMet a entries base level (new.low + 1) new

-- each place that was kept is resolved or in the clause
pub record Minimizes (a : Arena) (entries : List Entry) (base level : ℕ) (old new : State) : Type 0 where
  pub seen : new.seen ≡ old.seen
  pub low : new.low ≡ old.low
  pub met : (at : ℕ) → AreMet a entries base level at old → AreMet a entries base level at new

-- the reason of a place that was resolved has been met
pub record Closes (a : Arena) (entries : List Entry) (base level at place : ℕ) (old new : State) : Type 0 where
  pub still : (q : ℕ) → IsSeen old.seen q → IsSeen new.seen q
  pub added : List ℕ
  pub resolved : new.resolved ≡ old.resolved ++ added
  pub kept : new.kept ≡ old.kept
  pub low : new.low ≡ old.low
  pub met : AreMet a entries base level at new
  pub closed : HasSeen a entries new.seen 0 place

-- so it is with the first few of these places
pub record ClosesTo (a : Arena) (entries : List Entry) (base level at done : ℕ) (old new : State) : Type 0 where
  pub still : (q : ℕ) → IsSeen old.seen q → IsSeen new.seen q
  pub kept : new.kept ≡ old.kept
  pub low : new.low ≡ old.low
  pub met : AreMet a entries base level at new
  pub closed : (i place : ℕ) → i < done → slice_get new.resolved i ≡ Some place → HasSeen a entries new.seen 0 place

-- and with all
pub record ClosesAll (a : Arena) (entries : List Entry) (base level at : ℕ) (old new : State) : Type 0 where
  pub still : (q : ℕ) → IsSeen old.seen q → IsSeen new.seen q
  pub kept : new.kept ≡ old.kept
  pub low : new.low ≡ old.low
  pub met : AreMet a entries base level at new
  pub closed : (place : ℕ) → Contains new.resolved place → HasSeen a entries new.seen 0 place

-- the same places were resolved, in ascending order
pub record Sorts (old new : State) : Type 0 where
  pub seen : new.seen ≡ old.seen
  pub kept : new.kept ≡ old.kept
  pub leaves : new.leaves ≡ old.leaves
  pub low : new.low ≡ old.low
  pub none_lost : (place : ℕ) → Contains old.resolved place → Contains new.resolved place
  pub none_new : (place : ℕ) → Contains new.resolved place → Contains old.resolved place
  pub rises : OnlyOnce old.resolved → Rises new.resolved

-- nothing but the literals of a clause was met
pub record Starts (a : Arena) (entries : List Entry) (base level clause : ℕ) (s : State) : Type 0 where
  pub met : AreMet a entries base level (length entries) s
  pub lits : List Lit
  pub is_clause : slice_get a.clauses clause ≡ Some lits
  pub seen : AreSeen entries s.seen 0 lits

-- in the end each place that was met is either resolved, with its reason's, or in the clause, or it is of the current level
-- and below a place
pub record IsEnded (a : Arena) (entries : List Entry) (base level at : ℕ) (s : State) : Type 0 where
  pub none_kept : s.kept ≡ []
  pub fate : (place : ℕ) → IsSeen s.seen place → Fate level at s place
  pub leaves : (place : ℕ) → Contains s.leaves place → IsLeaf entries base level s place
  pub leaves_once : OnlyOnce s.leaves
  pub apart : (place : ℕ) → Contains s.resolved place → Contains s.leaves place → ⊥
  pub rises : Rises s.resolved
  pub closed : (place : ℕ) → Contains s.resolved place → HasSeen a entries s.seen 0 place
  pub away : (place : ℕ) → Contains s.resolved place → (place < level) ⊎ (at ≤ place)
  pub lowest : (place : ℕ) → IsSeen s.seen place → level ≤ place → s.low ≤ place

pub record Completes (a : Arena) (entries : List Entry) (base level at : ℕ) (old new : State) : Type 0 where
  pub still : (place : ℕ) → IsSeen old.seen place → IsSeen new.seen place
  pub low : new.low ≡ old.low
  pub ended : IsEnded a entries base level at new

-- the literals of a clause were met, in the end
pub record IsEndedFor (a : Arena) (entries : List Entry) (base level at clause : ℕ) (s : State) : Type 0 where
  pub ended : IsEnded a entries base level at s
  pub lits : List Lit
  pub is_clause : slice_get a.clauses clause ≡ Some lits
  pub seen : AreSeen entries s.seen 0 lits

-- so that one place is left at the current level
pub record IsLed (a : Arena) (entries : List Entry) (base level clause : ℕ) (s : State) : Type 0 where
  pub ended : IsEndedFor a entries base level (s.low + 1) clause s
  pub there : s.low < length entries
  pub above : level ≤ s.low

-- ---- what is written

-- the literal at a place, its negation, and the number of the clause that implied it
abbrev pub lit_at : List Entry → ℕ → Lit
lit_at entries place = slice_index_or (map (λ e. e.lit) entries) place (record { 0 = 0 })

abbrev pub negated : List Entry → ℕ → Lit
negated entries place = negation (lit_at entries place)

abbrev pub number_of : List Entry → ℕ → ℕ
number_of entries place = unwrap_or (reason_of entries place) 0

-- these places but one
abbrev pub without : ℕ → List ℕ → List ℕ
without except places = filter (λ place. not (place == except)) places

-- the highest of these places
pub record IsHighest (places : List ℕ) (place : ℕ) : Type 0 where
  pub is_in : Contains places place
  pub highest : (q : ℕ) → Contains places q → q ≤ place

-- a clause has the negation of the literal at a point alone, or with it those at other places, the highest one first;
-- and the level of that place
pub data IsWritten (t : Trail) (point : ℕ) (leaves : List ℕ) (lits : List Lit) (back : ℕ) : Type 0 where
  alone : leaves ≡ [] → lits ≡ negated t.entries point ∷ [] → back ≡ 0 → IsWritten t point leaves lits back
  followed : (second : ℕ) → IsHighest leaves second
      → lits ≡ negated t.entries point ∷ negated t.entries second ∷ map (negated t.entries) (without second leaves)
      → back ≡ level_at t second → IsWritten t point leaves lits back

-- ---- the law

-- a literal is in the learned clause, or is the negation of one that was resolved before a place
abbrev pub IsCovered : (ℕ → Lit) → List Lit → List ℕ → ℕ → Lit → Type 0
IsCovered lit learned places place o = Contains learned o ⊎ ((q : ℕ) × Contains places q × (q < place) × (o ≡ negation (lit q)))

-- what was resolved at some places leads from the last clause to the learned one
pub record IsLaw (lit : ℕ → Lit) (clause : ℕ → List Lit) (learned : List Lit) (places : List ℕ) (last : List Lit) : Type 0 where
  pub is_in : (p : ℕ) → Contains places p → Contains (clause p) (lit p)
  pub others : (p : ℕ) (o : Lit) → Contains places p → Contains (clause p) o → o ≢ lit p → IsCovered lit learned places p o
  pub fresh : (p : ℕ) → Contains places p → Contains learned (lit p) → ⊥
  pub new : (p : ℕ) → Contains places p → Contains learned (negation (lit p)) → ⊥
  pub apart : (p q : ℕ) → Contains places p → Contains places q → lit p ≡ negation (lit q) → ⊥
  pub once : (p q : ℕ) → Contains places p → Contains places q → lit p ≡ lit q → p ≡ q
  pub closed : (o : Lit) → Contains last o → Contains learned o ⊎ ((q : ℕ) × Contains places q × (o ≡ negation (lit q)))
