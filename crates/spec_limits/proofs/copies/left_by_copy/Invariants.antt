use Rattle.std.proofs.Common.{◌≡◌, ◌+◌, ◌*◌, length, take}
use Rattle.std.specs.List.{range_with_len, sum_by}
use Rattle.spec_limits.specs.Instances.{copy_partners}
use Rattle.spec_limits.proofs.copies.left_by_copy.Given as goal

abbrev pub invariant-loop-at : goal.invariant-loop-at
invariant-loop-at l =
    l.left + sum_by (λ first. length l.copy.places * copy_partners l.copy l.target l.source first)
    (take l.at (range_with_len 0 (length l.target))) ≡ l.fn.left
