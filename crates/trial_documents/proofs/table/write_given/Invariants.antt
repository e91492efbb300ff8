use Rattle.std.proofs.Common.{◌≡◌, ◌++◌}
use Rattle.trial_documents.specs.Tables.{each, given_line}
use Rattle.trial_documents.proofs.table.write_given.Given as goal

abbrev pub invariant-loop-place : goal.invariant-loop-place
invariant-loop-place l = l.text ≡ l.initial.text ++ each l.place (given_line l.size l.entity)
