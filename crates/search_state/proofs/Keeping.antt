-- What keeps the parts of a state together, and what is true of it at any moment.
use Rattle.std.proofs.Common.{◌≡◌, ◌∙◌, ℕ, true, List, [], ◌∷◌, ◌++◌, All, Option, Some, None, is_some, length, refl, sym, ap, subst, arith}
use Rattle.std.proofs.lemmas.List.{length-map, map-append}
use Rattle.std.proofs.lemmas.List.Elements.{All-push}
use Rattle.currency_base.specs.declared.lit.Lit.{Lit}
use Rattle.currency_base.specs.declared.value.Value.{Value as Datum}
use Rattle.clause_arena.specs.Arenas.{Arena, AreWatchers}
use Rattle.search_trail.specs.Trails.{AreEntries, Trail}
use Rattle.refutation_log.specs.Steps.{clause_of, clauses_of}
use Rattle.refutation_log.specs.declared.statement.Statement.{Statement}
use Rattle.refutation_log.specs.declared.step.Step.{Step}
use Rattle.watch_propagate.specs.WatchRule.{AreReordered, Implies, IsRewatched, KeepsWatch}
use Rattle.conflict_analysis.specs.Analyses.{IsDerived}
use Rattle.search_state.specs.States.{IsDerivedFrom, IsFit, IsState, State, vars_of}
use Rattle.search_state.specs.Held.{AreHeld, IsKept}
use Rattle.search_state.proofs.Following.{follows_reordered, lean_reordered}
use Rattle.search_state.proofs.Holding.{held_as, held_propagated, none_found}
use Rattle.search_state.proofs.Showing.{quiet_below}

-- the same steps
pub kept_more : (vars : ℕ) (steps : List Step) (a b : Arena) (t u : Trail) (r s : Option ℕ) (n m : ℕ)
    → IsKept vars steps a t r n → AreHeld (clauses_of steps) b u s
    → u.vars ≡ t.vars → length b.watchers ≡ length a.watchers → m ≡ n → IsKept vars steps b u s m
kept_more vars steps a b t u r s n m k held trail_vars arena_vars analysis_vars =
    record {
      few = k.few;
      trail_vars = trail_vars ∙ k.trail_vars;
      arena_vars = arena_vars ∙ k.arena_vars;
      analysis_vars = analysis_vars ∙ k.analysis_vars;
      fit = k.fit;
      held = held;
    }

-- one step more
pub kept_push : (vars : ℕ) (steps more : List Step) (step : Step) (a b : Arena) (t u : Trail) (r s : Option ℕ)
    (n m : ℕ) → IsKept vars steps a t r n
    → more ≡ steps ++ step ∷ [] → IsFit vars (clause_of step) → AreHeld (clauses_of steps ++ clause_of step ∷ []) b u s
    → u.vars ≡ t.vars → length b.watchers ≡ length a.watchers → m ≡ n → IsKept vars more b u s m
kept_push vars steps more step a b t u r s n m k is fit held trail_vars arena_vars analysis_vars =
    record {
      few = k.few;
      trail_vars = trail_vars ∙ k.trail_vars;
      arena_vars = arena_vars ∙ k.arena_vars;
      analysis_vars = analysis_vars ∙ k.analysis_vars;
      fit = subst (All (λ st. IsFit vars (clause_of st))) (sym is) (All-push (λ st. IsFit vars (clause_of st)) steps
          step k.fit fit);
      held = subst (λ (cs : List (List Lit)). AreHeld cs b u s)
          (sym (ap clauses_of is ∙ map-append clause_of steps (step ∷ []))) held;
    }

-- what is true of a state at any moment
pub state_of : (answers : List (List Datum)) (statements : List Statement) (steps : List Step) (a : Arena)
    (t : Trail) (refuted : Option ℕ) (n : ℕ)
    → IsKept (length statements) steps a t refuted n → AreWatchers a → AreEntries t
    → IsState (record {
      frame = record { answers = answers; statements = statements };
      steps = steps;
      trail =
          t;
      refuted = is_some refuted;
    })
state_of answers statements steps a t refuted n k watchers are =
    record {
      few = k.few;
      trail_vars = k.trail_vars;
      fit = k.fit;
      refuted = stuck refuted refl;
      at_rest_below = λ e deep. quiet_below steps a t watchers are k.held.reordered (k.held.goes_on (none_found refuted e)) deep;
    }
  where
    stuck : (o : Option ℕ) → refuted ≡ o → is_some refuted ≡ true → t.starts ≡ []
    stuck None is e = let no : ⊥ = cc in absurd no
    stuck (Some clause) is e = (k.held.stuck clause is).starts

-- what follows from the arena's clauses follows from those of the steps
pub derived_of : (s : State) (a : Arena) (t : Trail) (lits : List Lit) (hints : List ℕ) → AreReordered
    (clauses_of s.steps) a.clauses → t.vars ≡ vars_of s
    → IsDerived a t lits hints → IsDerivedFrom s lits hints
derived_of s a t lits hints re vars d =
    record {
      fit = record { within = λ k x h. let below = d.within k x h in omega (arith, below, vars); once = d.lits_once };
      follows = follows_reordered a.clauses (clauses_of s.steps) lits hints re d.known d.follows;
      lean = lean_reordered a.clauses (clauses_of s.steps) lits hints re d.known d.lean;
    }

-- and its literals are fit
pub fit_of : (a : Arena) (t : Trail) (lits : List Lit) (hints : List ℕ) (vars : ℕ) → t.vars ≡ vars
    → IsDerived a t lits hints → IsFit vars lits
fit_of a t lits hints vars same d = record {
  within = λ k x h. let below = d.within k x h in omega
      (arith, below, same);
  once = d.lits_once;
}

-- the same steps by another name
pub kept_steps : (vars : ℕ) (steps more : List Step) (a : Arena) (t : Trail) (r : Option ℕ) (n : ℕ) → more ≡ steps
    → IsKept vars steps a t r n → IsKept vars more a t r n
kept_steps vars steps more a t r n same k = subst (λ (ss : List Step). IsKept vars ss a t r n) (sym same) k

-- after unit propagation
pub kept_propagated : (vars : ℕ) (steps : List Step) (old new : Arena) (was is : Trail) (refuted : Option ℕ) (n : ℕ)
    → refuted ≡ None → AreEntries was → IsRewatched old new
    → Implies new was is → KeepsWatch new is → IsKept vars steps old was refuted n → IsKept vars steps new is refuted n
kept_propagated vars steps old new was is refuted n none are re implies rule k =
    kept_more vars steps old new was is refuted refuted n n k
    (held_as (clauses_of steps) new is is None refuted refl none
    (held_propagated (clauses_of steps) old new was is are re implies rule
    (held_as (clauses_of steps) old was was refuted None refl (sym none) k.held)))
    implies.vars re.lists refl

-- after a clause was learned or derived, the places of steps are those of clauses
pub as_many_clauses : (steps : List Step) (a : Arena) → AreReordered (clauses_of steps) a.clauses
    → length a.clauses ≡ length steps
as_many_clauses steps a re = re.as_many ∙ length-map steps clause_of
