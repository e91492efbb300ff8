use Rattle.std.proofs.Common.{◌<◌, ◌+◌, ◌++◌, ◌∙◌, length, replicate, refl, ap, arith}
use Rattle.entity_lists.specs.Lists.{entities_of}
use Rattle.entity_lists.proofs.Facts.{length-entities_of}
use Rattle.variable_parts.specs.Told.{laters, pair_keys, row_key, rows_in}
use Rattle.variable_parts.proofs.BlockKeys.{pairs_end, pairs_left, pairs_next, rest_more, rest_none}
use Rattle.variable_parts.proofs.keys.push_pairs.Goals as goal

pub loop-row-init : goal.loop-row-init
unfolding pair_keys
loop-row-init c = refl

pub loop-row-preserved : goal.loop-row-preserved
loop-row-preserved c =
    let d = c.args.source.now in
    let rel = c.args.rel in
    let es = entities_of (rows_in d rel) in
    let row = c.loop-row.row in
    let keys = c.loop-row.keys.items in
    let within : row < length es = omega (
      arith,
      c.loop-row-test.true,
      c.rows-row-end.ensures.value,
      length-entities_of (rows_in d rel),
    ) in
    let own = row_key d rel (record { 0 = row }) in
    rest_more keys (replicate (laters es row) own) (pairs_left d rel es (row + 1)) (pairs_left d rel es row)
    (c.args.keys.now.items ++ pair_keys d rel) c.append.new.keys.items c.loop-row.invariant (pairs_next d rel es row within)
    (c.in_ok-append.ensures ∙ (ap (λ n. keys ++ replicate n c.part.result) c.laters.ensures.value
    ∙ ap (λ part. keys ++ replicate (laters es row) part) c.part.ensures))

pub returns : goal.returns
returns c =
    let d = c.args.source.now in
    let rel = c.args.rel in
    let es = entities_of (rows_in d rel) in
    let row = c.loop-row.row in
    rest_none c.loop-row.keys.items (pairs_left d rel es row) (c.args.keys.now.items ++ pair_keys d rel) c.loop-row.invariant
    (pairs_end d rel es row (omega (
      arith,
      c.loop-row-test.false,
      c.rows-row-end.ensures.value,
      length-entities_of (rows_in d rel),
    )))
