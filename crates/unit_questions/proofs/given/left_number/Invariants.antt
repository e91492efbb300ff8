-- The variables so far are counted.
use Rattle.std.proofs.Common.{◌≡◌, ◌≤◌}
use Rattle.unit_questions.specs.Substituted.{given_value, left_number}
use Rattle.unit_questions.proofs.given.left_number.Given as goal

abbrev pub invariant-loop-var : goal.invariant-loop-var
invariant-loop-var l = record {
  few : l.number ≤ l.var;
  so_far : l.number ≡ left_number (given_value l.head l.tuple) l.var;
}
