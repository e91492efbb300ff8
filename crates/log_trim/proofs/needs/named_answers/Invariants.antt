-- The answers of the statements so far are marked.
use Rattle.std.proofs.Common.{◌≡◌, length, replicate, false}
use Rattle.log_trim.specs.Marked.{gathered, answers_at}
use Rattle.log_trim.proofs.needs.named_answers.Given as goal

abbrev pub invariant-loop-place : goal.invariant-loop-place
invariant-loop-place l = record {
  count : length l.marks ≡ length l.log.answers;
  all : l.marks ≡ gathered l.kept (answers_at l.log.statements) l.place (replicate (length l.log.answers) false);
}
