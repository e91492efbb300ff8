use Rattle.std.proofs.Common.{◌∙◌, false, refl, sym, ap, subst}
use Rattle.search_trail.specs.Trails.{Trail}
use Rattle.refutation_log.specs.Steps.{clauses_of}
use Rattle.refutation_log.specs.declared.step.Step.TheVariants.{Learn}
use Rattle.search_state.specs.States.{IsFalse, State}
use Rattle.search_state.proofs.Concluding.{concluded_of, refuted_as}
use Rattle.search_state.proofs.Holding.{held_as, held_undone}
use Rattle.search_state.proofs.Keeping.{fit_of, kept_more, kept_push, kept_steps}
use Rattle.search_state.proofs.Showing.{falsified_of}
use Rattle.search_state.proofs.state.State.refute.Goals as goal

pub explain_conflict-requires-clause-conflict : goal.explain_conflict-requires-clause-conflict
explain_conflict-requires-clause-conflict g c =
    falsified_of _ c.self.inside.search.arena c.args.conflict c.self.invariant.held.reordered
    (subst (λ (s : State). IsFalse s c.args.conflict) (sym c.self.view_is) c.requires.conflict)

pub invariant_of-self-in_default-conclude : goal.invariant_of-self-in_default-conclude
invariant_of-self-in_default-conclude g c =
    let search = c.self.inside.search in
    let steps = c.self.inside.log.steps in
    let new = c.conclude.new.search in
    let clauses = clauses_of steps in
    let held = held_as clauses search.arena _ c.go_back.new.trail search.refuted search.refuted c.go_back.ensures refl
    (held_undone clauses search.arena search.trail search.refuted 0 c.are_entries.ensures c.self.invariant.held) in
    kept_steps _ steps c.conclude.new.steps new.arena new.trail new.refuted _ c.in_default-conclude.ensures.err_steps
    (kept_more _ steps search.arena new.arena search.trail new.trail search.refuted new.refuted _
    c.explain_conflict.new.self.vars c.self.invariant
    (c.in_default-conclude.ensures.err_held clauses held) (c.conclude.ensures.vars ∙ ap (λ (t : Trail). t.vars)
    c.go_back.ensures) c.conclude.ensures.watchers
    c.explain_conflict.ensures.vars)

pub invariant_of-self-2 : goal.invariant_of-self-2
invariant_of-self-2 g c =
    let search = c.self.inside.search in
    let steps = c.self.inside.log.steps in
    let new = c.conclude.new.search in
    let l = c.explain_conflict.new.self in
    let clauses = clauses_of steps in
    let held = held_as clauses search.arena _ c.go_back.new.trail search.refuted search.refuted c.go_back.ensures refl
    (held_undone clauses search.arena search.trail search.refuted 0 c.are_entries.ensures c.self.invariant.held) in
    kept_push _ steps c.conclude.new.steps (Learn l.lits l.hints false) search.arena new.arena search.trail new.trail
    search.refuted new.refuted _ l.vars c.self.invariant
    c.in-Ok-conclude.ensures.steps (fit_of search.arena search.trail l.lits l.hints _ c.self.invariant.trail_vars
    c.in-Ok.ensures.derived)
    (c.in-Ok-conclude.ensures.held clauses held) (c.conclude.ensures.vars ∙ ap (λ (t : Trail). t.vars)
    c.go_back.ensures) c.conclude.ensures.watchers
    c.explain_conflict.ensures.vars

pub returns-clause-ok : goal.returns-clause-ok
returns-clause-ok g c =
    let l = c.explain_conflict.new.self in
    refuted_as _ _ _ l.lits c.self.view_is
    (concluded_of _ _ c.self.inside.search.arena l.lits l.hints c.self.invariant.held.reordered
    c.self.invariant.trail_vars c.in-Ok.ensures.derived refl
    c.in-Ok-conclude.ensures.steps c.conclude.ensures.ground)
    c.in-Ok.ensures.assumed
