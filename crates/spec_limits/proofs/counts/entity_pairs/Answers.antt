use Rattle.std.proofs.Common.{arith, ◌<◌, ◌≡◌, ◌∙◌}
use Rattle.spec_limits.proofs.Tally.{counts_more, count_few, entity_within, pairs_more}
use Rattle.spec_limits.specs.Limits.{rows_of}
use Rattle.std.proofs.Common.{take}
use Rattle.spec_limits.proofs.counts.entity_pairs.Goals as goal

pub loop-row-preserved : goal.loop-row-preserved
loop-row-preserved c =
    let rows = c.args.rows.now in
    let i = c.loop-row.row-index in
    let row = c.row-item.result in
    let few : row.entity.0 < c.args.entities = entity_within c.args.entities rows i row c.requires.entities
    c.loop-row-test.true c.row-item.is in
    let before : c.count-before.result ≡ rows_of row.entity.0 (take i rows) = c.count-before.ensures.before
    ∙ c.loop-row.invariant.counted.each row.entity.0 few in
    let counted = count_few c.args.entities c.loop-row.tally rows i row.entity.0 c.loop-row.invariant.counted few in
    let more = pairs_more rows i row c.loop-row-test.true c.row-item.is in
    record {
      counted = counts_more c.args.entities c.loop-row.tally c.count-before.new.self rows i row c.count-before.result
          c.loop-row.invariant.counted
          c.loop-row-test.true c.row-item.is few c.count-before.ensures.before c.count-before.ensures.counted;
      pairs = omega (arith, before, more, c.loop-row.invariant.pairs, c.from-pairs.ensures);
      few = omega (arith, counted, c.loop-row.invariant.few, c.count-before.ensures.before, c.requires.few, c.from-pairs.ensures);
    }
