use Rattle.std.proofs.Common.{leb, rules}
use Rattle.std.proofs.lemmas.List.Sorted.{IsPartitionedBy-leb, IsPartitionPoint-from_clause}
use Rattle.entity_ground.specs.Lookups.{rank_to}
use Rattle.entity_ground.proofs.Alike.{ranks_rise}
use Rattle.entity_ground.proofs.index.end_of.Goals as goal

pub returns-clause-at : goal.returns-clause-at
returns-clause-at c =
    let rank = rank_to c.args.table.now c.args.attr c.args.value.now in
    let rows = c.args.by_value.now in
    IsPartitionPoint-from_clause (λ y. leb (rank y) 1) rows c.partition_point.result c.partition_point.ensures.partitioned
    (IsPartitionedBy-leb rank rows 1 (ranks_rise c.args.table.now c.args.attr c.args.members.now rows
    c.args.value.now c.requires)) (λ a r q k. search rules)
