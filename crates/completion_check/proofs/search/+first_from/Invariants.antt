use Rattle.std.proofs.Common.{◌≡◌, ◌-◌, ◌<◌, ℕ, [], ◌∷◌, ◌++◌, take, Some, slice_get}
use Rattle.currency_base.specs.declared.ids.RowId.{RowId}
use Rattle.completion_check.specs.Breaks.{NoneBreaks}
use Rattle.completion_check.proofs.search.+first_from.Given as goal

abbrev pub decreases-first_from : goal.decreases-first_from
decreases-first_from l = l.trial.now.rule.vars - l.depth

abbrev pub invariant-loop-row : goal.invariant-loop-row
invariant-loop-row l = (k : ℕ) (row : RowId) → k < l.row-index → slice_get l.members k ≡ Some row
    → NoneBreaks l.trial l.members (l.trial.rule.vars - l.depth - 1) (take l.depth l.choice ++ row ∷ [])
