use Rattle.std.proofs.Common.{◌≡◌}
use Rattle.std.specs.List.{flat_map, range_with_len}
use Rattle.entity_lists.specs.Lists.{entities_of, rows_of}
use Rattle.entity_ground.specs.Grounds.{grounds_among}
use Rattle.entity_ground.proofs.rules.grounds_in.Given as goal

abbrev pub invariant-loop-ent : goal.invariant-loop-ent
invariant-loop-ent l = l.grounds ≡ flat_map (λ ent. grounds_among l.rule l.relation.rows
    (rows_of (entities_of l.relation.rows) ent)) (range_with_len 0 l.ent)
