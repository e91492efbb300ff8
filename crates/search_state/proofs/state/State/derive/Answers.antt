use Rattle.std.proofs.Common.{false, refl}
use Rattle.refutation_log.specs.Steps.{clauses_of}
use Rattle.refutation_log.specs.declared.step.Step.TheVariants.{Learn}
use Rattle.search_state.proofs.Concluding.{concluded_as, concluded_of}
use Rattle.search_state.proofs.Keeping.{fit_of, kept_more, kept_push, kept_steps}
use Rattle.search_state.proofs.state.State.derive.Goals as goal

pub invariant_of-self-in_default-conclude : goal.invariant_of-self-in_default-conclude
invariant_of-self-in_default-conclude c =
    let search = c.self.inside.search in
    let steps = c.self.inside.log.steps in
    let new = c.conclude.new.search in
    kept_steps _ steps c.conclude.new.steps new.arena new.trail new.refuted _ c.in_default-conclude.ensures.err_steps
    (kept_more _ steps search.arena new.arena search.trail new.trail search.refuted new.refuted _
    c.explain_literal.new.self.vars c.self.invariant
    (c.in_default-conclude.ensures.err_held (clauses_of steps) c.self.invariant.held) c.conclude.ensures.vars
    c.conclude.ensures.watchers c.explain_literal.ensures.vars)

pub invariant_of-self-2 : goal.invariant_of-self-2
invariant_of-self-2 c =
    let search = c.self.inside.search in
    let steps = c.self.inside.log.steps in
    let new = c.conclude.new.search in
    let l = c.explain_literal.new.self in
    kept_push _ steps c.conclude.new.steps (Learn l.lits l.hints false) search.arena new.arena search.trail new.trail
    search.refuted new.refuted _ l.vars c.self.invariant
    c.in-Ok-conclude.ensures.steps (fit_of search.arena search.trail l.lits l.hints _ c.self.invariant.trail_vars
    c.in-Ok.ensures.derived)
    (c.in-Ok-conclude.ensures.held (clauses_of steps) c.self.invariant.held) c.conclude.ensures.vars
    c.conclude.ensures.watchers c.explain_literal.ensures.vars

pub returns-clause-ok : goal.returns-clause-ok
returns-clause-ok c =
    let l = c.explain_literal.new.self in
    concluded_as _ _ _ l.lits _ c.self.view_is c.in-Ok.ensures.unit
    (concluded_of _ _ c.self.inside.search.arena l.lits l.hints c.self.invariant.held.reordered
    c.self.invariant.trail_vars c.in-Ok.ensures.derived refl
    c.in-Ok-conclude.ensures.steps c.conclude.ensures.ground)
