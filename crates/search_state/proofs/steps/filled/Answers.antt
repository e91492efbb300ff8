use Rattle.std.proofs.Common.{◌≡◌, ◌∙◌, ℕ, List, [], ◌∷◌, ◌++◌, take, subst, sym, ap}
use Rattle.currency_base.specs.declared.lit.Lit.{Lit}
use Rattle.search_trail.specs.Trails.{Trail}
use Rattle.refutation_log.specs.Steps.{clauses_of}
use Rattle.search_state.specs.Held.{AreHeld}
use Rattle.search_state.specs.States.{IsFit}
use Rattle.search_state.proofs.Filling.{fit_at, in_more}
use Rattle.search_state.proofs.steps.filled.Goals as goal

pub put-requires-clause-fit : goal.put-requires-clause-fit
put-requires-clause-fit c =
    let vars : c.prepare.new.self.trail.vars ≡ c.args.vars = ap (λ (t : Trail). t.vars) c.prepare.ensures.trail
    ∙ c.loop-place.invariant.trail_vars in
    subst (λ (n : ℕ). IsFit n c.prepare.new.self.lits.items) (sym vars)
    (subst (IsFit c.args.vars) (sym c.in_ok-prepare.ensures.lits)
    (fit_at c.args.vars c.args.steps.now c.loop-place.place _ c.requires.fit c.lits.ensures))

pub loop-place-preserved : goal.loop-place-preserved
loop-place-preserved c =
    let before = take c.loop-place.place (clauses_of c.args.steps.now) in
    in_more c.args.vars c.args.steps.now c.loop-place.place c.lits.result.now c.loop-place.search.arena
    c.put.new.self.arena c.loop-place.search.trail c.put.new.self.trail
    c.loop-place.search.refuted c.put.new.self.refuted c.lits.ensures
    (λ held. subst (λ (ls : List Lit). AreHeld (before ++ ls ∷ []) c.put.new.self.arena c.put.new.self.trail
    c.put.new.self.refuted) c.in_ok-prepare.ensures.lits
    (c.put.ensures.held before (c.prepare.ensures.held before held)))
    (c.put.ensures.vars ∙ ap (λ (t : Trail). t.vars) c.prepare.ensures.trail) c.put.ensures.ground
    (c.put.ensures.scope ∙ ap (λ (t : Trail). t.scope) c.prepare.ensures.trail)
    (c.put.ensures.watchers ∙ c.prepare.ensures.watchers)
    c.loop-place.invariant
