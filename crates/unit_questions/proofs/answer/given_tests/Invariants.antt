-- The tests so far, in front of the others, are the whole.
use Rattle.std.proofs.Common.{◌≡◌, ◌++◌, drop, map}
use Rattle.unit_questions.specs.Substituted.{given_test, given_value}
use Rattle.unit_questions.proofs.answer.given_tests.Given as goal

abbrev pub invariant-loop-test : goal.invariant-loop-test
invariant-loop-test l =
    l.list ++ map (given_test (given_value l.head l.tuple)) (drop l.test-index l.tests)
    ≡ map (given_test (given_value l.head l.tuple)) l.tests
