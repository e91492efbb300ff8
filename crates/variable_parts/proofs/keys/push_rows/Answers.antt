use Rattle.std.proofs.Common.{◌<◌, ◌+◌, ◌++◌, ◌∷◌, ◌∙◌, [], length, map, ap, arith}
use Rattle.value_names.specs.Names.{row_ids}
use Rattle.variable_parts.specs.Told.{row_key, rows_in}
use Rattle.variable_parts.proofs.BlockKeys.{rest_more, rest_none, rows_all, rows_end, rows_left, rows_next}
use Rattle.variable_parts.proofs.keys.push_rows.Goals as goal

pub loop-row-init : goal.loop-row-init
loop-row-init c =
    ap (λ ks. c.args.keys.now.items ++ ks) (rows_all c.args.source.now c.args.rel (length (rows_in c.args.source.now c.args.rel)))

pub loop-row-preserved : goal.loop-row-preserved
loop-row-preserved c =
    let d = c.args.source.now in
    let rel = c.args.rel in
    let count = length (rows_in d rel) in
    let row = c.loop-row.row in
    let keys = c.loop-row.keys.items in
    let within : row < count = omega (arith, c.loop-row-test.true, c.rows-row-end.ensures.value) in
    rest_more keys (row_key d rel (record { 0 = row }) ∷ []) (rows_left d rel count (row + 1)) (rows_left d rel count row)
    (c.args.keys.now.items ++ map (row_key d rel) (row_ids count)) c.push.new.self.items c.loop-row.invariant
    (rows_next d rel count row within)
    (c.in_ok-push.ensures.items ∙ ap (λ part. keys ++ part ∷ []) c.part.ensures)

pub returns : goal.returns
returns c =
    let d = c.args.source.now in
    let rel = c.args.rel in
    let count = length (rows_in d rel) in
    let row = c.loop-row.row in
    rest_none c.loop-row.keys.items (rows_left d rel count row) (c.args.keys.now.items ++ map (row_key d rel) (row_ids count))
    c.loop-row.invariant (rows_end d rel count row (omega (arith, c.loop-row-test.false, c.rows-row-end.ensures.value)))
