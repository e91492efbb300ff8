use Rattle.std.proofs.Common.{arith}
use Rattle.currency_base.specs.declared.pair.Pair.{Pair}
use Rattle.part_laws.specs.Parts.{rows_in}
use Rattle.spec_parts.proofs.Adding.{grows_none, grows_also}
use Rattle.spec_parts.proofs.GivenSteps.{next_pair, next_fits, next_grows, next_added, pairs_end}
use Rattle.spec_parts.proofs.given.put_pairs.Goals as goal

none : Pair
none = record { attr = record { 0 = 0 }; earlier = record { 0 = 0 }; later = record { 0 = 0 } }

pub loop-pair-init : goal.loop-pair-init
loop-pair-init c = record {
  grows = grows_none c.args.whole.now c.args.places.now c.args.part.now c.requires.so_far;
  added = λ w at p o is in_none. absurd (omega (arith, in_none.1));
}

pub pair_of_part-requires : goal.pair_of_part-requires
unfolding none
pair_of_part-requires c =
    let next = next_pair c.args.whole.now c.args.places.now c.args.rel.0 c.requires.cut c.requires.within c.rows.result.now
    c.args.pairs.now c.loop-pair.pair-index
    none c.rows.ensures c.requires.pairs c.loop-pair-test.true in
    record { few = next.few; ascend = next.cuttable.rows_ascend; earlier = next.earlier; later = next.later }

pub add_given-requires-clause-fits : goal.add_given-requires-clause-fits
unfolding none
add_given-requires-clause-fits c =
    next_fits c.args.whole.now c.args.places.now c.args.rel.0 c.requires.cut c.requires.within c.rows.result.now c.rows.ensures
    c.args.pairs.now c.loop-pair.pair-index
    none c.requires.pairs c.loop-pair-test.true c.loop-pair.part c.pair_of_part.result c.loop-pair.invariant.grows.so_far
    c.pair_of_part.ensures

pub loop-pair-preserved : goal.loop-pair-preserved
unfolding none
loop-pair-preserved c =
    let whole = c.args.whole.now in
    let places = c.args.places.now in
    let add = c.in_ok-add_given.ensures in
    let grows = next_grows whole places c.args.rel.0 c.requires.cut c.requires.within c.rows.result.now
    c.rows.ensures c.args.pairs.now
    c.loop-pair.pair-index
    none c.requires.pairs c.loop-pair-test.true c.loop-pair.part c.pair_of_part.result c.loop-pair.invariant.grows.so_far
    c.pair_of_part.ensures
    c.add_given.new.self add.ok add.rules add.copies in
    record {
      grows = grows_also whole places c.args.part.now c.loop-pair.part c.add_given.new.self c.loop-pair.invariant.grows grows;
      added = next_added whole places c.args.rel.0 c.requires.cut c.requires.within c.rows.result.now c.rows.ensures
          c.args.pairs.now
          c.loop-pair.pair-index
          none c.requires.pairs c.loop-pair-test.true c.loop-pair.part c.pair_of_part.result c.loop-pair.invariant.grows.so_far
          c.pair_of_part.ensures
          c.add_given.new.self add.ok grows c.loop-pair.invariant.added;
    }

pub returns-clause-added : goal.returns-clause-added
returns-clause-added c =
    pairs_end c.loop-pair.part.relations c.args.rel.0 (rows_in c.args.places.now c.args.rel.0) c.args.pairs.now
    c.loop-pair.pair-index
    c.loop-pair-test.false
    c.loop-pair.invariant.added
