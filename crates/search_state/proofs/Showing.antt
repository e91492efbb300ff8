-- What the parts of a state show of it: conflicts, and where unit propagation is at rest.
use Rattle.std.proofs.Common.{◌≡◌, ◌⊎◌, ◌<◌, ◌-◌, ℕ, List, All, Some, Contains, length, slice_get, slice_index_or, sym, inl, inr, arith}
use Rattle.std.proofs.lemmas.List.Elements.{All-contains}
use Rattle.std.proofs.lemmas.Option.{slice_get-get_or}
use Rattle.currency_base.specs.declared.lit.Lit.{Lit}
use Rattle.clause_arena.specs.Arenas.{Arena, AreWatchers}
use Rattle.search_trail.specs.Trails.{AreEntries, Trail, entries_up_to, lits_of}
use Rattle.refutation_log.specs.Steps.{clauses_of}
use Rattle.refutation_log.specs.declared.step.Step.{Step}
use Rattle.refutation_log.specs.Counted.{HasTrue, IsAtRest}
use Rattle.watch_propagate.specs.WatchRule.{AreAtRest, AreReordered, IsConflict}
use Rattle.watch_propagate.proofs.KeptLists.{contains_at, from_front}
use Rattle.watch_propagate.proofs.KeptLits.{lits_consistent}
use Rattle.watch_propagate.proofs.RestFacts.{rest_at_starts}
use Rattle.watch_propagate.proofs.SameFacts.{at_rest_same, clause_there, same_back}
use Rattle.conflict_analysis.specs.Analyses.{IsFalsified, IsOfLevel, lits_below}
use Rattle.search_state.specs.States.{IsFalse, IsNotBelow, State}
use Rattle.search_state.specs.Held.{AreCovered, CanGoOn, HasWatched, ground_lits}
use Rattle.search_state.proofs.Grounds.{ground_below}

-- ---- conflicts

pub false_of : (s : State) (a : Arena) (place : ℕ) → AreReordered (clauses_of s.steps) a.clauses
    → IsFalsified a s.trail place → IsFalse s place
false_of s a place re f =
    let there = clause_there a.clauses (clauses_of s.steps) place f.lits (sym re.as_many) f.is_clause in
    record {
      lits = there.0;
      is_clause = there.1;
      all_false = λ lit c. f.all_false lit ((re.same place there.0 f.lits there.1 f.is_clause).none_lost lit c);
    }

pub falsified_of : (s : State) (a : Arena) (place : ℕ) → AreReordered (clauses_of s.steps) a.clauses
    → IsFalse s place → IsFalsified a s.trail place
falsified_of s a place re f =
    let there = clause_there (clauses_of s.steps) a.clauses place f.lits re.as_many f.is_clause in
    record {
      lits = there.0;
      is_clause = there.1;
      all_false = λ lit c. f.all_false lit ((re.same place f.lits there.0 f.is_clause there.1).none_new lit c);
    }

pub of_level : (s : State) (a : Arena) (place : ℕ) → AreReordered (clauses_of s.steps) a.clauses → IsNotBelow s place
    → IsOfLevel a s.trail place
of_level s a place re n =
    let there = clause_there (clauses_of s.steps) a.clauses place n.lits re.as_many n.is_clause in
    record {
      lits = there.0;
      is_clause = there.1;
      lit = n.lit;
      is_in = (re.same place n.lits there.0 n.is_clause there.1).none_lost n.lit n.is_in;
      not_below = n.not_below;
    }

-- a conflict is a clause that is false
pub falsified_by : (a : Arena) (t : Trail) (place : ℕ) → IsConflict a (lits_of t) place → IsFalsified a t place
falsified_by a t place k = record { lits = k.watched.lits; is_clause = k.watched.is_clause; all_false = k.all_false }

-- below the current level a clause was not false, where unit propagation was at rest on it
pub not_below : (s : State) (place : ℕ) → AreEntries s.trail → All (IsAtRest (lits_below s.trail))
    (clauses_of s.steps) → IsFalse s place → IsNotBelow s place
not_below s place are rest f = go (All-contains (IsAtRest (lits_below s.trail)) (clauses_of s.steps) f.lits rest
    (contains_at (clauses_of s.steps) place f.lits f.is_clause))
  where
    go : IsAtRest (lits_below s.trail) f.lits → IsNotBelow s place
    go (inl h) =
        absurd (lits_consistent s.trail are h.lit
        (from_front (entries_up_to s.trail (length s.trail.starts - 1)) (lits_of s.trail) h.lit h.is_true)
        (f.all_false h.lit h.is_in))
    go (inr h) =
        record { lits = f.lits; is_clause = f.is_clause; lit = h.first; is_in = h.first_in; not_below = h.first_open.not_false }

-- ---- at rest

-- on a clause, where on a part of it
at_rest_more : (truths part lits : List Lit) → ((lit : Lit) → Contains part lit → Contains lits lit) → IsAtRest truths part
    → IsAtRest truths lits
at_rest_more truths part lits among (inl h) =
    inl (record { lit = h.lit; is_in = among h.lit h.is_in; is_true = h.is_true })
at_rest_more truths part lits among (inr h) =
    inr (record {
      first = h.first;
      second = h.second;
      differ = h.differ;
      first_in = among h.first h.first_in;
      second_in = among h.second h.second_in;
      first_open = h.first_open;
      second_open = h.second_open;
    })

-- on the clause of each step, where on each watched clause
pub quiet_of : (steps : List Step) (a : Arena) (t : Trail) (truths : List Lit) → AreReordered (clauses_of steps)
    a.clauses → AreCovered a t
    → ((x : Lit) → Contains (ground_lits t) x → Contains truths x) → AreAtRest a truths → All (IsAtRest truths) (clauses_of steps)
quiet_of steps a t truths re covered grows rest k d h = go (clause_there (clauses_of steps) a.clauses k lits re.as_many is)
  where
    lits : List Lit
    lits = slice_index_or (clauses_of steps) k d

    is : slice_get (clauses_of steps) k ≡ Some lits
    is = slice_get-get_or (clauses_of steps) k d h

    go : (ys : List Lit) × (slice_get a.clauses k ≡ Some ys) → IsAtRest truths lits
    go (ys, there) = at_rest_same truths ys lits (same_back lits ys (re.same k lits ys is there)) (by (covered k ys there))
      where
        by : HasWatched a ys ⊎ HasTrue (ground_lits t) ys → IsAtRest truths ys
        by (inl h) = at_rest_more truths h.watched.lits ys h.among (rest h.clause h.watched)
        by (inr h) = inl (record { lit = h.lit; is_in = h.is_in; is_true = grows h.lit h.is_true })

-- below the current level
pub quiet_below : (steps : List Step) (a : Arena) (t : Trail) → AreWatchers a → AreEntries t → AreReordered
    (clauses_of steps) a.clauses → CanGoOn a t → 0 < length t.starts
    → All (IsAtRest (lits_below t)) (clauses_of steps)
quiet_below steps a t watchers are re goes_on deep =
    quiet_of steps a t (lits_below t) re goes_on.covered (λ x c. ground_below t x are c)
    (rest_at_starts a t (length t.starts - 1) (entries_up_to t (length t.starts - 1)) watchers are goes_on.rule
    (slice_get-get_or t.starts (length t.starts - 1) (length t.entries) (omega (arith, deep))))

-- and where all entries were gone through
pub quiet_at_end : (steps : List Step) (a : Arena) (t : Trail) → AreReordered (clauses_of steps) a.clauses
    → CanGoOn a t → AreAtRest a (lits_of t)
    → All (IsAtRest (lits_of t)) (clauses_of steps)
quiet_at_end steps a t re goes_on rest =
    quiet_of steps a t (lits_of t) re goes_on.covered (λ x c. from_front (entries_up_to t 0) (lits_of t) x c) rest
