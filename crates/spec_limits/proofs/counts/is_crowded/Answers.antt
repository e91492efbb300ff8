use Rattle.std.proofs.Common.{arith, ◌<◌, ◌≡◌, ◌≤◌, ◌∙◌, sym, take, ℕ, subst, List}
use Rattle.std.proofs.lemmas.List.{take_all}
use Rattle.currency_base.specs.declared.row.Row.{Row}
use Rattle.spec_limits.proofs.Tally.{counts_more, entity_within, crowded_here, low_more, spread}
use Rattle.spec_limits.specs.Limits.{rows_of}
use Rattle.spec_limits.proofs.counts.is_crowded.Goals as goal

pub returns-then-before-ge-MOST_OF_ONE : goal.returns-then-before-ge-MOST_OF_ONE
returns-then-before-ge-MOST_OF_ONE c =
    let rows = c.args.rows.now in
    let i = c.loop-row.row-index in
    let row = c.row-item.result in
    let few : row.entity.0 < c.args.entities = entity_within c.args.entities rows i row c.requires.entities
    c.loop-row-test.true c.row-item.is in
    let before : c.count-before.result ≡ rows_of row.entity.0 (take i rows) = c.count-before.ensures.before
    ∙ c.loop-row.invariant.counted.each row.entity.0 few in
    sym (crowded_here rows i row c.loop-row-test.true c.row-item.is (omega (arith, before, c.if-before-ge-MOST_OF_ONE.true)))

pub loop-row-preserved : goal.loop-row-preserved
loop-row-preserved c =
    let rows = c.args.rows.now in
    let i = c.loop-row.row-index in
    let row = c.row-item.result in
    let few : row.entity.0 < c.args.entities = entity_within c.args.entities rows i row c.requires.entities
    c.loop-row-test.true c.row-item.is in
    let before : c.count-before.result ≡ rows_of row.entity.0 (take i rows) = c.count-before.ensures.before
    ∙ c.loop-row.invariant.counted.each row.entity.0 few in
    record {
      counted = counts_more c.args.entities c.loop-row.tally c.count-before.new.self rows i row c.count-before.result
          c.loop-row.invariant.counted
          c.loop-row-test.true c.row-item.is few c.count-before.ensures.before c.count-before.ensures.counted;
      low = low_more rows i row c.loop-row.invariant.low c.loop-row-test.true c.row-item.is
          (omega (arith, before, c.if-before-ge-MOST_OF_ONE.false));
    }

pub returns : goal.returns
returns c =
    let all : take c.loop-row.row-index c.args.rows.now ≡ c.args.rows.now = take_all c.loop-row.row-index
    c.args.rows.now c.loop-row-test.false in
    sym (spread c.args.rows.now (subst (λ (rows : List Row). (ent : ℕ) → rows_of ent rows ≤ 64) all c.loop-row.invariant.low))
