-- What is left of the head and the tuple gives the variable its value.
use Rattle.std.proofs.Common.{◌≡◌, drop}
use Rattle.unit_questions.specs.Substituted.{given_value}
use Rattle.unit_questions.proofs.given.given_value.Given as goal

abbrev pub invariant-loop-place : goal.invariant-loop-place
invariant-loop-place l =
    given_value (drop l.place l.head) (drop l.place l.tuple) l.var ≡ given_value l.head l.tuple l.var
