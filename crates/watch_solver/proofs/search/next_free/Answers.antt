use Rattle.std.proofs.Common.{◌≡◌, ◌∙◌, None, Some, slice_get, sym, ap}
use Rattle.search_trail.specs.Trails.{ScopedValues, values_of}
use Rattle.currency_base.specs.Literals.{var_of}
use Rattle.search_trail.proofs.KnownValues.{is_free, is_variable}
use Rattle.watch_solver.proofs.UnderGoal.{goal_assumed}
use Rattle.watch_solver.proofs.search.next_free.Goals as goal

pub returns-in-Some : goal.returns-in-Some
returns-in-Some g c =
    let t = c.args.trail.now in
    let none : slice_get (values_of t).given (var_of c.pick.result) ≡ Some None =
    ap (λ (vs : ScopedValues). slice_get vs.given (var_of c.pick.result)) (sym c.values-values.ensures)
    ∙ c.pick.ensures.free.free in
    record {
      within = is_variable t (var_of c.pick.result) None none;
      free = is_free t (var_of c.pick.result) none;
      kept = goal_assumed t c.args.goal c.pick.result c.requires.kept c.requires.goal_false;
    }
