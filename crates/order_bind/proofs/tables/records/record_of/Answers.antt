use Rattle.std.proofs.Common.{List}
use Rattle.currency_base.specs.declared.value.Value.{Value}
use Rattle.order_bind.proofs.Said.{said, AreTaken}
use Rattle.order_bind.proofs.tables.records.record_of.Goals as goal

pub returns : goal.returns
returns c =
    let first : List Value = c.into_items-values.result.items in
    let rest : List Value = c.take_text.new.values.items in
    let last : List Value = c.take_text-2.new.values.items in
    let taken : AreTaken c.args.tuple first rest last c.in_ok-name.name c.in_ok-earlier.earlier c.in_ok-later.later =
    record {
      all = c.into_items-values.ensures;
      dropped = c.take_text.ensures.rest;
      dropped_again = c.take_text-2.ensures.rest;
      name_is = c.in_ok-name.ensures.text;
      earlier_is = c.in_ok-earlier.ensures.text;
      later_is = c.in_ok-later.ensures.text;
    } in
    said c.args.table.now c.args.attrs.now c.args.place c.args.tuple first rest last c.line_at-line.result c.in_ok-attr.attr
    c.in_ok-name.name c.in_ok-earlier.earlier c.in_ok-later.later taken c.line_at-line.ensures c.in_ok-attr.ensures.due
