use Rattle.std.proofs.Common.{◌∙◌, length, ap}
use Rattle.search_trail.specs.Trails.{ScopedValues, Trail}
use Rattle.search_state.specs.States.{Frame}
use Rattle.order_search.proofs.Beginning.{as_many_values}
use Rattle.order_search.proofs.opening.guess.Goals as goal

pub start-requires : goal.start-requires
start-requires g c =
    ap (λ (vs : ScopedValues). length vs.given) c.values.ensures ∙ as_many_values c.trail.result.now
    ∙ ap (λ (t : Trail). t.vars) c.trail.ensures
    ∙ c.is_solver.ensures.vars
    ∙ ap (λ (f : Frame). length f.statements) c.propagate_at_root.ensures.frame ∙ ap length c.requires
