use Rattle.semi_joins.specs.Kept.{CanFit}
use Rattle.semi_joins.proofs.Marking.{KeepsBelow}
use Rattle.semi_joins.proofs.passes.fitting_rows.Given as goal

abbrev pub invariant-loop-row : goal.invariant-loop-row
invariant-loop-row l = KeepsBelow (λ place row. CanFit l.conditions.tests l.terms row) l.rows l.row-index l.kept
