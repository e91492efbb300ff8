use Rattle.std.proofs.Common.{inr, sym, ◌∙◌, arith}
use Rattle.csv.specs.Records.{fields_of}
use Rattle.currency_csv.specs.Sources.{source_of, sources_of}
use Rattle.currency_csv.proofs.AllOk.{so_far_all, so_far_fault, so_far_more}
use Rattle.currency_csv.proofs.Steps.{looked_up, no_item, source_found, source_missing}
use Rattle.currency_csv.proofs.columns.sources.Goals as goal

pub returns-in_default : goal.returns-in_default
unfolding sources_of
returns-in_default c =
    let header = fields_of c.args.header.now in
    let column = c.index-columns-number.result in
    let place = c.flatten.ensures ∙ looked_up header column c.copied.result (c.copied.ensures ∙ c.get.ensures.value
    ∙ c.in-Ok.ensures column.name) in
    let missing = source_missing header c.loop-number.number column
    (sym (no_item c.flatten.result c.in_default.not-Some) ∙ place) in
    inr (rw c.capped-place.ensures (so_far_fault (source_of header) 0 c.args.columns.now c.loop-number.number
    c.loop-number.number c.loop-number.sources.items column column
    c.loop-number-test.true (omega arith) c.index-columns-number.is c.loop-number.invariant _ missing))

pub loop-number-preserved : goal.loop-number-preserved
loop-number-preserved c =
    let header = fields_of c.args.header.now in
    let column = c.index-columns-number.result in
    let place = c.flatten.ensures ∙ looked_up header column c.copied.result (c.copied.ensures ∙ c.get.ensures.value
    ∙ c.in-Ok.ensures column.name) in
    let found = source_found header c.loop-number.number c.in-Some.place column (sym c.in-Some.is ∙ place) in
    rw c.in-Ok-push.ensures.items (so_far_more (source_of header) 0 c.args.columns.now c.loop-number.number
    c.loop-number.number c.loop-number.sources.items column column
    c.loop-number-test.true (omega arith) c.index-columns-number.is c.loop-number.invariant _ found)

pub returns : goal.returns
unfolding sources_of
returns c = inr (so_far_all (source_of (fields_of c.args.header.now)) 0 c.args.columns.now c.loop-number.number
    c.loop-number.sources.items (omega arith) c.loop-number.invariant)
