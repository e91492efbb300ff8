use Rattle.std.proofs.Common.{nat_le, rules}
use Rattle.std.proofs.lemmas.List.Sorted.{IsPartitionPoint-from_clause, IsPartitionedBy-leb}
use Rattle.search_trail.proofs.LevelFacts.{level_from_point}
use Rattle.search_trail.proofs.trail.count_up_to.Goals as goal

pub returns-clause-count : goal.returns-clause-count
returns-clause-count c =
    let parted = IsPartitionedBy-leb (λ start. start) _ c.args.place c.requires in
    let point = IsPartitionPoint-from_clause (λ start. nat_le start c.args.place) _ _
    c.partition_point.ensures.partitioned parted (λ a r q k. search rules) in
    level_from_point _ c.args.place _ c.partition_point.ensures.bound point
