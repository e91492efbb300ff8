use Rattle.std.proofs.Common.{refl, sym, subst}
use Rattle.refutation_log.specs.Steps.{clause_of, clauses_of, step_of}
use Rattle.search_state.specs.States.{IsFit, State, vars_of}
use Rattle.search_state.proofs.Keeping.{kept_more, kept_push, kept_steps}
use Rattle.search_state.proofs.state.State.add.Goals as goal

pub invariant_of-self : goal.invariant_of-self
invariant_of-self c =
    let search = c.self.inside.search in
    let new = c.append.new.search in
    let steps = c.self.inside.log.steps in
    kept_steps _ steps c.append.new.steps new.arena new.trail new.refuted _ c.in_default.ensures.err_steps
    (kept_more _ steps search.arena new.arena search.trail new.trail search.refuted new.refuted _ _ c.self.invariant
    (c.in_default.ensures.err_held (clauses_of steps) c.self.invariant.held) c.append.ensures.vars c.append.ensures.watchers refl)

pub invariant_of-self-2 : goal.invariant_of-self-2
invariant_of-self-2 c =
    let search = c.self.inside.search in
    let new = c.append.new.search in
    let steps = c.self.inside.log.steps in
    let fit = subst (λ (s : State). IsFit (vars_of s) (clause_of (step_of c.args.step))) (sym c.self.view_is) c.requires.fit in
    kept_push _ steps c.append.new.steps _ search.arena new.arena search.trail new.trail search.refuted new.refuted _
    _ c.self.invariant c.in-Ok.ensures.steps fit
    (c.in-Ok.ensures.held (clauses_of steps) c.self.invariant.held) c.append.ensures.vars c.append.ensures.watchers refl
