use Rattle.std.proofs.Common.{refl, ap}
use Rattle.refutation_log.specs.Steps.{clauses_of}
use Rattle.search_trail.specs.Trails.{Trail}
use Rattle.search_state.proofs.Holding.{held_as, held_focused}
use Rattle.search_state.proofs.Keeping.{kept_more}
use Rattle.search_state.proofs.state.State.focus.Goals as goal

pub invariant_of-self : goal.invariant_of-self
invariant_of-self c =
    let search = c.self.inside.search in
    let steps = c.self.inside.log.steps in
    kept_more _ steps search.arena search.arena search.trail c.focus.new.self search.refuted search.refuted _ _ c.self.invariant
    (held_as (clauses_of steps) search.arena _ c.focus.new.self search.refuted search.refuted c.in_default.ensures.err refl
    c.self.invariant.held)
    (ap (λ (t : Trail). t.vars) c.in_default.ensures.err) refl refl

pub invariant_of-self-2 : goal.invariant_of-self-2
invariant_of-self-2 c =
    let search = c.self.inside.search in
    let steps = c.self.inside.log.steps in
    kept_more _ steps search.arena search.arena search.trail c.focus.new.self search.refuted search.refuted _ _ c.self.invariant
    (held_as (clauses_of steps) search.arena _ c.focus.new.self search.refuted search.refuted c.in-Ok.ensures.ok refl
    (held_focused (clauses_of steps) search.arena search.trail search.refuted c.args.scope.now c.self.invariant.held))
    (ap (λ (t : Trail). t.vars) c.in-Ok.ensures.ok) refl refl
