use Rattle.std.proofs.Common.{subst}
use Rattle.search_trail.specs.Trails.{AreEntries}
use Rattle.watch_solver.proofs.Shown.{answer_model}
use Rattle.watch_solver.proofs.decision.found_model.Goals as goal

pub returns : goal.returns
returns c left =
    answer_model c.args.state.now c.args.goal left (subst AreEntries c.trail.ensures c.are_entries.ensures) c.requires
