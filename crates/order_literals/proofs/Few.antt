-- Where there are few statements, there are few pairs of rows.
use Rattle.std.proofs.Common.{◌≡◌, ◌+◌, ◌<◌, ◌^◌, List, length, arith}
use Rattle.std.proofs.lemmas.List.{length-map}
use Rattle.entity_lists.specs.Lists.{entities_of}
use Rattle.pair_numbers.specs.Pairs.{pairs_of}
use Rattle.pair_numbers.specs.declared.pair.RowPair.{RowPair}
use Rattle.refutation_log.specs.declared.statement.Statement.TheVariants as says
use Rattle.spec_model.specs.declared.relation.Relation.{Relation}
use Rattle.order_literals.specs.Layout.{attrs_before, HasPlace, HaveFewPairs}
use Rattle.order_literals.specs.Numbers.{numbered, numbers_of}
use Rattle.order_literals.specs.Statements.{block_statements, statements_of}
use Rattle.order_literals.specs.declared.block.Block.TheVariants.{Pairs}
use Rattle.order_literals.specs.declared.wanted.Wanted.{Wanted}
use Rattle.order_literals.proofs.AllBlocks.{pairs_block}
use Rattle.order_literals.proofs.Callers.{table_at}
use Rattle.order_literals.proofs.Kept.{block_fits}

-- the pairs of a relation with an attribute are no more than all statements
pub few_pairs : (relations : List Relation) (wanted : Wanted) → length (statements_of (numbers_of relations wanted))
    < 2 ^ 31 → HaveFewPairs relations
few_pairs relations wanted few rel r at some =
    let n = numbers_of relations wanted in
    let here = table_at wanted.currents relations rel r at in
    let place : HasPlace n.tables rel 0 = record {
      table = numbered wanted.currents rel r;
      is_table =
          here;
      attr_within = some;
    } in
    let fits = block_fits n (attrs_before n.tables rel + 0) (Pairs (record { 0 = rel }) (record { 0 = 0 }))
    (pairs_block n rel 0 place) in
    let count : length (block_statements n (Pairs (record { 0 = rel }) (record { 0 = 0 }))) ≡ length
    (pairs_of (entities_of r.rows)) =
    rw here (length-map (pairs_of (entities_of r.rows)) (λ (p : RowPair). says.Before (record { 0 = rel })
    (record { 0 = 0 }) p.earlier p.later)) in
    omega arith
