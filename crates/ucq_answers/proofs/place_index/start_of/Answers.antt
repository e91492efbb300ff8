use Rattle.std.proofs.Common.{ltb, rules}
use Rattle.std.proofs.lemmas.List.Sorted.{IsPartitionedBy-ltb, IsPartitionPoint-from_clause}
use Rattle.ucq_answers.specs.Lookups.{rank_to}
use Rattle.ucq_answers.proofs.Alike.{ranks_rise}
use Rattle.ucq_answers.proofs.place_index.start_of.Goals as goal

pub returns-clause-at : goal.returns-clause-at
returns-clause-at c =
    let rank = rank_to c.args.tuples.now c.args.place c.args.value.now in
    let ents = c.args.by_value.now in
    IsPartitionPoint-from_clause (λ y. ltb (rank y) 1) ents c.partition_point.result c.partition_point.ensures.partitioned
    (IsPartitionedBy-ltb rank ents 1 (ranks_rise c.args.tuples.now c.args.place ents c.args.value.now c.requires))
    (λ a r q k. search rules)
