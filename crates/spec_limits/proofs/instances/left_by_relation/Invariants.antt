use Rattle.std.proofs.Common.{◌≡◌, ◌+◌, ◌*◌, length, take}
use Rattle.std.specs.List.{sum_by}
use Rattle.spec_limits.specs.Instances.{two_for_each_three}
use Rattle.spec_limits.proofs.instances.left_by_relation.Given as goal

abbrev pub invariant-loop-rows : goal.invariant-loop-rows
invariant-loop-rows l = l.left + sum_by (λ rows. l.attrs * two_for_each_three (length rows))
    (take l.rows-index l.entities) ≡ l.fn.left
