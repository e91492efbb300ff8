use Rattle.std.proofs.Common.{◌≡◌, ◌++◌}
use Rattle.trial_documents.specs.Tables.{each, copy_line}
use Rattle.trial_documents.proofs.table.write_copies.Given as goal

abbrev pub invariant-loop-row : goal.invariant-loop-row
invariant-loop-row l = l.text ≡ l.initial.text ++ each l.row (copy_line l.entity)
