-- A clause of which a watched one is a part leaves the watch lists.
use Rattle.std.proofs.Common.{◌≡◌, ◌≢◌, ◌⊎◌, ◌∙◌, ℕ, List, Option, Some, Contains, map, slice_get, sym, ap, subst, inl, inr}
use Rattle.std.specs.List.{filter}
use Rattle.std.proofs.lemmas.Bool.{cases_eq}
use Rattle.currency_base.specs.declared.lit.Lit.{Lit}
use Rattle.clause_arena.specs.Arenas.{Arena, IsWatched, is_other}
use Rattle.clause_arena.proofs.Left.{still_watched}
use Rattle.search_trail.specs.Trails.{Trail}
use Rattle.refutation_log.specs.Counted.{HasTrue}
use Rattle.watch_propagate.specs.WatchRule.{AreReordered}
use Rattle.watch_propagate.proofs.KeptLists.{same_get}
use Rattle.watch_propagate.proofs.KeptRules.{keeps_dropped}
use Rattle.watch_propagate.proofs.ReasonFacts.{reasons_dropped}
use Rattle.search_state.specs.Held.{AreCovered, AreHeld, HasWatched, ground_lits}
use Rattle.search_state.proofs.Holding.{watched_still}

module _ (old new : Arena) (part clause : ℕ) (xs : List Lit) (w : IsWatched old part) (differs : part ≢ clause)
    (is : slice_get old.clauses clause ≡ Some xs) (among : (lit : Lit) → Contains w.lits lit → Contains xs lit)
    (same : new.clauses ≡ old.clauses) (watchers : new.watchers ≡ map (filter (is_other clause)) old.watchers) where
  -- the part is watched still
  pub part_stays : IsWatched new part
  part_stays = still_watched old new clause same watchers part differs w

  still_has : (lits : List Lit) → HasWatched old lits → HasWatched new lits
  still_has lits h = go (cases_eq h.clause clause)
    where
      go : (h.clause ≡ clause) ⊎ (h.clause ≢ clause) → HasWatched new lits
      go (inl e) =
          let there : slice_get old.clauses clause ≡ Some h.watched.lits =
          ap (slice_get old.clauses) (sym e) ∙ h.watched.is_clause in
          record {
            clause = part;
            watched = part_stays;
            among = λ lit c. h.among lit
                (subst (λ (ls : List Lit). Contains ls lit) (same_get old.clauses clause xs h.watched.lits is there)
                (among lit (subst (λ (ls : List Lit). Contains ls lit)
                (same_get new.clauses part part_stays.lits w.lits part_stays.is_clause
                (ap (λ (cs : List (List Lit)). slice_get cs part) same ∙ w.is_clause)) c)));
          }
      go (inr d) =
          watched_still old new lits h (still_watched old new clause same watchers h.clause d h.watched)
          (ap (λ (cs : List (List Lit)). slice_get cs h.clause) same ∙ h.watched.is_clause)

  covered_still : (t : Trail) → AreCovered old t → AreCovered new t
  covered_still t covered number lits there = go (covered number lits (ap (λ (cs : List (List Lit)). slice_get cs number)
      (sym same) ∙ there))
    where
      go : HasWatched old lits ⊎ HasTrue (ground_lits t) lits → HasWatched new lits ⊎ HasTrue (ground_lits t) lits
      go (inl h) = inl (still_has lits h)
      go (inr h) = inr h

  -- what the arena holds it holds still
  pub held_without : (clauses : List (List Lit)) (t : Trail) (refuted : Option ℕ) → AreHeld clauses old t refuted
      → AreHeld clauses new t refuted
  held_without clauses t refuted held =
      record {
        reordered = subst (AreReordered clauses) (sym same) held.reordered;
        reasons = reasons_dropped old new t.entries same held.reasons;
        goes_on = λ e. record {
          rule = keeps_dropped old new clause t same watchers (held.goes_on e).rule;
          covered = covered_still t (held.goes_on e).covered;
        };
        stuck = λ number e.
            let r = held.stuck number e in
            record {
              starts = r.starts;
              falsified = record {
                lits = r.falsified.lits;
                is_clause = ap (λ (cs : List (List Lit)). slice_get cs number) same ∙ r.falsified.is_clause;
                all_false = r.falsified.all_false;
              };
            };
      }
