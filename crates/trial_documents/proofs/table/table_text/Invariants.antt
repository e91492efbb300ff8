use Rattle.std.proofs.Common.{◌≡◌, ◌++◌}
use Rattle.trial_documents.specs.Tables.{each, entity_lines, head_of}
use Rattle.trial_documents.proofs.table.table_text.Given as goal

abbrev pub invariant-loop-entity : goal.invariant-loop-entity
invariant-loop-entity l = l.text ≡ head_of l.table ++ each l.entity (entity_lines l.table l.size)
