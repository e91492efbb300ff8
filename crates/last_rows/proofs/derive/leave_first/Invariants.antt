use Rattle.std.proofs.Common.{◌≡◌, ◌+◌, ℕ}
use Rattle.refutation_log.specs.Steps.{clauses_of}
use Rattle.last_rows.specs.Underway.{IsUnderway}
use Rattle.last_rows.proofs.derive.leave_first.Given as goal

abbrev pub invariant-loop-done : goal.invariant-loop-done
invariant-loop-done l = (later : ℕ) → later + l.done ≡ l.list.kept → IsUnderway l.list (clauses_of l.earlier) l.derivation later 0
