-- Clauses that are put in one after another.
use Rattle.std.proofs.Common.{◌≡◌, ◌≤◌, ◌*◌, ◌+◌, ◌∙◌, ℕ, List, [], ◌∷◌, ◌++◌, All, Option, Some, length, take, slice_get, sym, ap, subst, arith}
use Rattle.std.proofs.lemmas.List.{length-map, take_all, take_more}
use Rattle.std.proofs.lemmas.List.Elements.{All-map}
use Rattle.std.proofs.lemmas.Option.{get_or_from_slice_get, slice_get_within}
use Rattle.currency_base.specs.declared.lit.Lit.{Lit}
use Rattle.clause_arena.specs.Arenas.{Arena}
use Rattle.search_trail.specs.Trails.{Trail, whole_scope}
use Rattle.refutation_log.specs.Steps.{clause_of, clauses_of}
use Rattle.refutation_log.specs.declared.step.Step.{Step}
use Rattle.search_state.specs.Held.{AreHeld}
use Rattle.search_state.specs.States.{IsFit}

-- the first clauses are in
pub record AreIn (vars : ℕ) (steps : List Step) (place : ℕ) (a : Arena) (t : Trail) (refuted : Option ℕ) : Type 0 where
  pub held : AreHeld (take place (clauses_of steps)) a t refuted
  pub trail_vars : t.vars ≡ vars
  pub ground : t.starts ≡ []
  pub scope : t.scope ≡ whole_scope vars
  pub arena_vars : length a.watchers ≡ 2 * vars

pub in_begun : (vars : ℕ) (steps : List Step) (a : Arena) (t : Trail) (refuted : Option ℕ) → AreHeld [] a t refuted
    → t.vars ≡ vars → t.starts ≡ [] → t.scope ≡ whole_scope vars → length a.watchers ≡ 2 * vars
    → AreIn vars steps 0 a t refuted
in_begun vars steps a t refuted held trail_vars ground scope arena_vars =
    record { held = held; trail_vars = trail_vars; ground = ground; scope = scope; arena_vars = arena_vars }

-- one more
pub in_more : (vars : ℕ) (steps : List Step) (place : ℕ) (lits : List Lit) (a b : Arena) (t u : Trail)
    (refuted found : Option ℕ) → slice_get (clauses_of steps) place ≡ Some lits
    → (AreHeld (take place (clauses_of steps)) a t refuted → AreHeld (take place (clauses_of steps) ++ lits ∷ []) b u found)
    → u.vars ≡ t.vars → u.starts ≡ [] → u.scope ≡ t.scope → length b.watchers ≡ length a.watchers
    → AreIn vars steps place a t refuted → AreIn vars steps (place + 1) b u found
in_more vars steps place lits a b t u refuted found is put same_vars ground same_scope same_watchers before =
    record {
      held = subst (λ (cs : List (List Lit)). AreHeld cs b u found) (sym more) (put before.held);
      trail_vars = same_vars ∙ before.trail_vars;
      ground = ground;
      scope = same_scope ∙ before.scope;
      arena_vars = same_watchers ∙ before.arena_vars;
    }
  where
    more : take (place + 1) (clauses_of steps) ≡ take place (clauses_of steps) ++ lits ∷ []
    more =
        take_more (clauses_of steps) place lits (slice_get_within (clauses_of steps) place lits is)
        ∙ ap (λ (y : List Lit). take place (clauses_of steps) ++ y ∷ [])
        (get_or_from_slice_get (clauses_of steps) place lits lits is)

-- all
pub in_all : (vars : ℕ) (steps : List Step) (place : ℕ) (a : Arena) (t : Trail) (refuted : Option ℕ)
    → length steps ≤ place → AreIn vars steps place a t refuted
    → AreHeld (clauses_of steps) a t refuted
in_all vars steps place a t refuted h all_in =
    subst (λ (cs : List (List Lit)). AreHeld cs a t refuted)
    (take_all place (clauses_of steps) (omega (arith, h, length-map steps clause_of))) all_in.held

-- the literals of a step are fit
pub fit_at : (vars : ℕ) (steps : List Step) (place : ℕ) (lits : List Lit) → All (λ step. IsFit vars (clause_of step))
    steps → slice_get (clauses_of steps) place ≡ Some lits → IsFit vars lits
fit_at vars steps place lits fit is =
    subst (IsFit vars) (get_or_from_slice_get (clauses_of steps) place lits lits is)
    (All-map (IsFit vars) clause_of steps fit place lits (slice_get_within (clauses_of steps) place lits is))
