use Rattle.std.proofs.Common.{◌≡◌, ◌++◌}
use Rattle.trial_documents.specs.Tables.{each, view_line}
use Rattle.trial_documents.proofs.table.write_views.Given as goal

abbrev pub invariant-loop-row : goal.invariant-loop-row
invariant-loop-row l = l.text ≡ l.initial.text ++ each l.row (view_line l.entity)
