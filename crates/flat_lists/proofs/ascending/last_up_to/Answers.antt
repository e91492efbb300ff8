use Rattle.std.proofs.Common.{leb, rules}
use Rattle.std.proofs.lemmas.List.Sorted.{IsPartitionPoint-from_clause, IsPartitionedBy-leb}
use Rattle.flat_lists.proofs.Parted.{some_up_to, last_one, next_one}
use Rattle.flat_lists.proofs.ascending.last_up_to.Goals as goal

pub overflow_sub-result : goal.overflow_sub-result
overflow_sub-result c =
    let parted = IsPartitionedBy-leb (λ x. x) _ c.args.number c.requires.ascend in
    let point = IsPartitionPoint-from_clause (λ x. leb x c.args.number) _ _ c.partition_point.ensures.partitioned
    parted (λ a r q k. search rules) in
    some_up_to _ _ _ point c.requires.some c.requires.first

pub returns-clause-up_to : goal.returns-clause-up_to
returns-clause-up_to c =
    let parted = IsPartitionedBy-leb (λ x. x) _ c.args.number c.requires.ascend in
    let point = IsPartitionPoint-from_clause (λ x. leb x c.args.number) _ _ c.partition_point.ensures.partitioned
    parted (λ a r q k. search rules) in
    last_one _ _ _ point c.requires.some c.requires.first

pub returns-clause-last : goal.returns-clause-last
returns-clause-last c =
    let parted = IsPartitionedBy-leb (λ x. x) _ c.args.number c.requires.ascend in
    let point = IsPartitionPoint-from_clause (λ x. leb x c.args.number) _ _ c.partition_point.ensures.partitioned
    parted (λ a r q k. search rules) in
    next_one _ _ _ point c.requires.some c.requires.first
