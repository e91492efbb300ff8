use Rattle.std.proofs.Common.{◌∙◌, ◌+◌, ◌-◌, Some, drop, length, refl, slice_get, sym, ap, arith}
use Rattle.std.proofs.lemmas.Option.{slice_get_read}
use Rattle.report_verify.specs.Supported.{item_needs}
use Rattle.unit_questions.proofs.Walks.{unit_here, unit_past}
use Rattle.unit_questions.proofs.asking.value_at.Goals as goal

pub returns-then-left-values : goal.returns-then-left-values
returns-then-left-values c q =
    let items = c.args.items.now in
    let item = c.item-item.result in
    let values = c.as_slice-values.result.now in
    let at = c.loop-item.item-index in
    let left = c.loop-item.left in
    let value = c.index-values-left.result in
    ap (λ one. Some one) c.in_ok-asked.ensures
    ∙ unit_here c.args.relations.now q items at item left c.args.unit value
    (slice_get_read items (length items) at item refl c.loop-item-test.true c.item-item.is)
    (ap (λ l. slice_get l left) (sym c.as_slice-values.ensures)
    ∙ slice_get_read values (length values) left value refl c.if-left-values.true c.index-values-left.is)
    c.loop-item.invariant.same

pub loop-item-preserved : goal.loop-item-preserved
loop-item-preserved c =
    let items = c.args.items.now in
    let item = c.item-item.result in
    let at = c.loop-item.item-index in
    let left = c.loop-item.left in
    let many = ap (λ l. length l) c.as_slice-values.ensures in
    record {
      few = omega (arith, c.loop-item.invariant.few);
      same = ap (λ n. slice_get (item_needs (at + 1) (drop (at + 1) items)) (left - n)) many
          ∙ unit_past items at item left c.args.unit
          (slice_get_read items (length items) at item refl c.loop-item-test.true c.item-item.is)
          (omega (arith, many, c.if-left-values.false)) c.loop-item.invariant.same;
    }
