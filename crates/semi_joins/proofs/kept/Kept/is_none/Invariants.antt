use Rattle.std.proofs.Common.{◌≡◌, ◌<◌, ℕ, false}
use Rattle.semi_joins.specs.Kept.{is_kept}
use Rattle.semi_joins.proofs.kept.Kept.is_none.Given as goal

abbrev pub invariant-loop-mark : goal.invariant-loop-mark
invariant-loop-mark l = (place : ℕ) → place < l.mark-index → is_kept l.self place ≡ false
