use Rattle.std.proofs.Common.{◌≡◌, ◌++◌, drop}
use Rattle.ucq_answers.specs.Kept.{zip_kept}
use Rattle.ucq_answers.proofs.prepared.searched_atoms.Given as goal

abbrev pub invariant-loop-step : goal.invariant-loop-step
invariant-loop-step l = l.atoms.items ++ zip_kept (drop l.step-index l.order) l.left.items ≡ zip_kept l.order l.fn.kept.items
