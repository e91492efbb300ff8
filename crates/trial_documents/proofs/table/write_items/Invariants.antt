use Rattle.std.proofs.Common.{◌≡◌, ◌++◌}
use Rattle.trial_documents.specs.Tables.{each, item_line}
use Rattle.trial_documents.proofs.table.write_items.Given as goal

abbrev pub invariant-loop-row : goal.invariant-loop-row
invariant-loop-row l = l.text ≡ l.initial.text ++ each l.row (item_line l.entity)
