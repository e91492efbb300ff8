use Rattle.std.proofs.Common.{◌≡◌, ◌++◌}
use Rattle.entity_lists.specs.Lists.{entities_of}
use Rattle.variable_parts.specs.Told.{pair_keys, rows_in}
use Rattle.variable_parts.proofs.BlockKeys.{pairs_left}
use Rattle.variable_parts.proofs.keys.push_pairs.Given as goal

abbrev pub invariant-loop-row : goal.invariant-loop-row
invariant-loop-row l =
    l.keys.items ++ pairs_left l.source l.rel (entities_of (rows_in l.source l.rel)) l.row
    ≡ l.initial.keys.items ++ pair_keys l.source l.rel
