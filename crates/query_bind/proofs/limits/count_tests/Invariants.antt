-- The parts so far are counted.
use Rattle.std.proofs.Common.{◌≡◌, ◌≤◌, take}
use Rattle.std.specs.List.{count_by}
use Rattle.query_bind.specs.Queried.{is_test}
use Rattle.query_bind.proofs.limits.count_tests.Given as goal

abbrev pub invariant-loop-part : goal.invariant-loop-part
invariant-loop-part l =
    record { counted : l.count ≡ count_by is_test (take l.part-index l.parts); within : l.count ≤ l.part-index }
