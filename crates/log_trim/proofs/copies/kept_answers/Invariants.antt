-- The answers so far are copied, those that are kept.
use Rattle.std.proofs.Common.{◌≡◌, take}
use Rattle.log_trim.specs.Trimmed.{kept_of}
use Rattle.log_trim.specs.Marked.{is_marked}
use Rattle.log_trim.proofs.copies.kept_answers.Given as goal

abbrev pub invariant-loop-place : goal.invariant-loop-place
invariant-loop-place l = l.list ≡ kept_of (is_marked l.kept) (take l.place l.answers)
