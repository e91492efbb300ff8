use Rattle.std.proofs.Common.{get_or, inr, sym, refl, ◌∙◌, ap, arith}
use Rattle.csv.specs.Records.{fields_of}
use Rattle.currency_base.specs.declared.value.ValueKind.TheVariants as kind
use Rattle.currency_csv.specs.Sources.{read_tuple, read_value}
use Rattle.currency_csv.specs.Table.{value_of}
use Rattle.currency_csv.proofs.AllOk.{so_far_all, so_far_fault, so_far_more}
use Rattle.currency_csv.proofs.Fields.{text_at}
use Rattle.currency_csv.proofs.Steps.{value_found, value_missing}
use Rattle.currency_csv.proofs.tuples.tuple.Goals as goal

pub value-requires : goal.value-requires
value-requires c = rw c.field.ensures (text_at (fields_of c.args.row.now) _ c.requires)

pub returns-in-Ok-None : goal.returns-in-Ok-None
unfolding read_tuple
returns-in-Ok-None c =
    let source = get_or c.args.sources.now c.loop-place.place (record { place = 0; kind = kind.Text }) in
    let fields = fields_of c.args.row.now in
    let none = sym c.in-Ok-None.field-0-is ∙ c.in-Ok-None.ensures ∙ ap (value_of source.kind) c.field.ensures in
    let bad = value_missing c.args.number c.loop-place.place fields source none in
    inr (rw c.capped-place.ensures (so_far_fault (read_value c.args.number fields) 0 c.args.sources.now
    c.loop-place.place c.loop-place.place c.loop-place.tuple source _
    c.loop-place-test.true (omega arith) refl c.loop-place.invariant _ bad))

pub loop-place-preserved : goal.loop-place-preserved
loop-place-preserved c =
    let source = get_or c.args.sources.now c.loop-place.place (record { place = 0; kind = kind.Text }) in
    let fields = fields_of c.args.row.now in
    let some = sym c.in-Ok-Some.field-0-is ∙ c.in-Ok-Some.ensures ∙ ap (value_of source.kind) c.field.ensures in
    let good = value_found c.args.number c.loop-place.place fields source c.in-Ok-Some.value some in
    rw c.in-Ok.ensures.ok (so_far_more (read_value c.args.number fields) 0 c.args.sources.now c.loop-place.place
    c.loop-place.place c.loop-place.tuple source _
    c.loop-place-test.true (omega arith) refl c.loop-place.invariant _ good)

pub returns : goal.returns
unfolding read_tuple
returns c = inr (so_far_all (read_value c.args.number (fields_of c.args.row.now)) 0 c.args.sources.now
    c.loop-place.place c.loop-place.tuple (omega arith) c.loop-place.invariant)
