use Rattle.std.proofs.Common.{◌≡◌, ◌+◌, ◌^◌, length, take}
use Rattle.std.specs.List.{sum_by}
use Rattle.spec_limits.proofs.instances.left_by_rule.Given as goal

abbrev pub invariant-loop-rows : goal.invariant-loop-rows
invariant-loop-rows l = l.left + sum_by (λ rows. length rows ^ l.vars) (take l.rows-index l.entities) ≡ l.fn.left
