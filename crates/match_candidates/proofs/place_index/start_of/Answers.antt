use Rattle.std.proofs.Common.{ltb, rules}
use Rattle.std.proofs.lemmas.List.Sorted.{IsPartitionedBy-ltb, IsPartitionPoint-from_clause}
use Rattle.match_candidates.specs.Entries.{rank_to}
use Rattle.match_candidates.proofs.AlikeEntries.{ranks_rise}
use Rattle.match_candidates.proofs.place_index.start_of.Goals as goal

pub returns-clause-at : goal.returns-clause-at
returns-clause-at c =
    let rank = rank_to c.args.value.now in
    let entries = c.args.entries.now in
    IsPartitionPoint-from_clause (λ y. ltb (rank y) 1) entries c.partition_point.result c.partition_point.ensures.partitioned
    (IsPartitionedBy-ltb rank entries 1 (ranks_rise c.args.table.now c.args.place entries c.args.value.now c.requires))
    (λ a r q k. search rules)
