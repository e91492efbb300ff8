use Rattle.std.proofs.Common.{nat_lt, rules}
use Rattle.std.proofs.lemmas.List.Sorted.{IsPartitionPoint-from_clause, IsPartitionedBy-ltb}
use Rattle.search_trail.proofs.LevelFacts.{rising}
use Rattle.search_trail.proofs.Scopes.{before_point}
use Rattle.search_trail.proofs.values.place_from.Goals as goal

pub returns-clause-before : goal.returns-clause-before
returns-clause-before c =
    let parted = IsPartitionedBy-ltb (λ low. low) _ c.args.var (rising _ c.requires) in
    let point = IsPartitionPoint-from_clause (λ low. nat_lt low c.args.var) _ _
    c.partition_point.ensures.partitioned parted (λ a r q k. search rules) in
    before_point _ c.args.var _ point
