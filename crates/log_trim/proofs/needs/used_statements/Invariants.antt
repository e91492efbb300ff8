-- The variables of the steps so far are marked.
use Rattle.std.proofs.Common.{◌≡◌, length, replicate, false}
use Rattle.log_trim.specs.Marked.{gathered, vars_at}
use Rattle.log_trim.proofs.needs.used_statements.Given as goal

abbrev pub invariant-loop-place : goal.invariant-loop-place
invariant-loop-place l = record {
  count : length l.marks ≡ length l.log.statements;
  all : l.marks ≡ gathered l.kept (vars_at l.log.steps) l.place (replicate (length l.log.statements) false);
}
