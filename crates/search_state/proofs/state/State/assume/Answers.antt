use Rattle.std.proofs.Common.{◌≡◌, ◌∙◌, None, length, refl, sym, ap, subst}
use Rattle.refutation_log.specs.Steps.{clauses_of}
use Rattle.search_trail.specs.Trails.{Trail}
use Rattle.search_state.specs.States.{State}
use Rattle.search_state.proofs.Holding.{held_as, held_assumed, none_found}
use Rattle.search_state.proofs.Keeping.{kept_more}
use Rattle.search_state.proofs.state.State.assume.Goals as goal

pub invariant_of-self : goal.invariant_of-self
invariant_of-self c =
    let search = c.self.inside.search in
    let steps = c.self.inside.log.steps in
    let none = none_found search.refuted (ap (λ (s : State). s.refuted) c.self.view_is ∙ c.requires.open) in
    let whole = subst (λ (s : State). s.trail.gone ≡ length s.trail.entries) (sym c.self.view_is) c.requires.gone in
    kept_more _ steps search.arena search.arena search.trail c.assume.new.self search.refuted search.refuted _ _ c.self.invariant
    (held_as (clauses_of steps) search.arena _ c.assume.new.self None search.refuted c.assume.ensures none
    (held_assumed (clauses_of steps) search.arena search.trail c.args.lit c.are_entries.ensures whole
    (held_as (clauses_of steps) search.arena search.trail search.trail search.refuted None refl (sym none)
    c.self.invariant.held)))
    (ap (λ (t : Trail). t.vars) c.assume.ensures) refl refl
