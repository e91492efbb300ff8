use Rattle.std.proofs.Common.{arith}
use Rattle.currency_base.specs.declared.ids.RowId.{RowId}
use Rattle.last_rows.specs.Rows.{no_lit}
use Rattle.order_literals.specs.Said.{Says, top}
use Rattle.order_search.specs.Kept.{vars_of}
use Rattle.order_search.specs.Lasting.{SaysTop}
use Rattle.order_search.proofs.AnyOrder.{any_wanted}
use Rattle.order_search.proofs.Lasts.{each_put, row_read}
use Rattle.order_search.proofs.lasting.tops_of.Goals as goal

pub top-lit-requires : goal.top-lit-requires
top-lit-requires c =
    any_wanted c.args.subject.now c.args.list c.args.rows.now c.requires.rows c.requires.wanted c.loop-place.place
    (record { 0 = 0 }) (omega (arith, c.loop-place-test.true))

pub loop-place-preserved : goal.loop-place-preserved
loop-place-preserved c =
    let s = c.args.subject.now in
    let list = c.args.list in
    let rows = c.args.rows.now in
    let lit = c.top-lit.result in
    each_put no_lit (SaysTop s list rows) c.loop-place.place c.loop-place.lits.items c.push.new.self.items lit
    c.loop-place.invariant c.in-Ok.ensures.items
    (row_read (λ (row : RowId). Says (vars_of s) lit (top list.rel list.attr row)) rows c.loop-place.place (record { 0 = 0 })
    c.top-lit.ensures)
