use Rattle.std.proofs.Common.{◌≡◌, ◌≤◌, Some, length, slice_get, refl, arith}
use Rattle.std.proofs.lemmas.Option.{slice_get_read}
use Rattle.report_verify.proofs.Fronts.{all_more, all_taken}
use Rattle.report_verify.proofs.Needing.{first_unmet, length_values, value_at, value_need}
use Rattle.report_verify.proofs.needs.check_values.Goals as goal
use Rattle.report_verify.specs.Supported.{IsDerived, value_needs}

pub returns-then-not-has_last-clause-unmet : goal.returns-then-not-has_last-clause-unmet
returns-then-not-has_last-clause-unmet c =
    let item = c.args.item.now in
    let needs = value_needs c.args.at item.rel item.ent 0 item.values in
    let here : slice_get item.values c.loop-attr.attr ≡ Some c.value-item.result =
    rw (← c.as_slice-value-items.ensures)
    (slice_get_read c.as_slice-value-items.result.now (length c.as_slice-value-items.result.now) c.loop-attr.attr
    c.value-item.result refl c.loop-attr-test.true c.value-item.is) in
    c.unmet_item.ensures c.args.from c.loop-attr.attr c.args.units.now.relations c.args.units.now.log needs
    c.loop-attr.invariant.count
    (first_unmet c.args.units.now.relations c.args.units.now.log needs c.loop-attr.attr
    (value_need c.args.at item.rel c.loop-attr.attr item.ent c.value-item.result)
    (value_at c.args.at item.rel item.ent item.values c.loop-attr.attr c.value-item.result here)
    (c.has_last.ensures.missing c.if-not-has_last.true) c.loop-attr.invariant.derived)

pub loop-attr-preserved : goal.loop-attr-preserved
loop-attr-preserved c =
    let item = c.args.item.now in
    let needs = value_needs c.args.at item.rel item.ent 0 item.values in
    let here : slice_get item.values c.loop-attr.attr ≡ Some c.value-item.result =
    rw (← c.as_slice-value-items.ensures)
    (slice_get_read c.as_slice-value-items.result.now (length c.as_slice-value-items.result.now) c.loop-attr.attr
    c.value-item.result refl c.loop-attr-test.true c.value-item.is) in
    record {
      derived = all_more (IsDerived c.args.units.now.relations c.args.units.now.log) needs c.loop-attr.attr
          (value_need c.args.at item.rel c.loop-attr.attr item.ent c.value-item.result)
          (value_at c.args.at item.rel item.ent item.values c.loop-attr.attr c.value-item.result here)
          c.loop-attr.invariant.derived
          (c.has_last.ensures.there c.if-not-has_last.false);
      count = (let was = c.loop-attr.invariant.count in omega (arith, was));
    }

pub returns-clause-derived : goal.returns-clause-derived
returns-clause-derived c =
    let item = c.args.item.now in
    let needs = value_needs c.args.at item.rel item.ent 0 item.values in
    let count = length_values c.args.at item.rel item.ent 0 item.values in
    let test : length item.values ≤ c.loop-attr.attr = rw (← c.as_slice-value-items.ensures) c.loop-attr-test.false in
    all_taken (IsDerived c.args.units.now.relations c.args.units.now.log) needs c.loop-attr.attr
    (omega (arith, count, test)) c.loop-attr.invariant.derived
