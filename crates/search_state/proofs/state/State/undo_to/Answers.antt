use Rattle.std.proofs.Common.{refl, ap}
use Rattle.refutation_log.specs.Steps.{clauses_of}
use Rattle.search_trail.specs.Trails.{Trail}
use Rattle.search_state.proofs.Holding.{held_as, held_undone}
use Rattle.search_state.proofs.Keeping.{kept_more}
use Rattle.search_state.proofs.state.State.undo_to.Goals as goal

pub invariant_of-self : goal.invariant_of-self
invariant_of-self g c =
    let search = c.self.inside.search in
    kept_more _ c.self.inside.log.steps search.arena search.arena search.trail c.go_back.new.trail search.refuted
    search.refuted _ _ c.self.invariant
    (held_as (clauses_of c.self.inside.log.steps) search.arena _ c.go_back.new.trail search.refuted search.refuted
    c.go_back.ensures refl
    (held_undone (clauses_of c.self.inside.log.steps) search.arena search.trail search.refuted c.args.level
    c.are_entries.ensures c.self.invariant.held))
    (ap (λ (t : Trail). t.vars) c.go_back.ensures) refl refl
