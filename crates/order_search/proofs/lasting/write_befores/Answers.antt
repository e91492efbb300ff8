use Rattle.std.proofs.Common.{arith, length, subst, sym}
use Rattle.currency_base.specs.declared.lit.Lit.{Lit}
use Rattle.last_rows.specs.Rows.{no_lit}
use Rattle.order_search.specs.Lasting.{SaysBefore}
use Rattle.order_search.proofs.Lasts.{each_all, each_put, none_read, rows_read}
use Rattle.order_search.proofs.AnyOrder.{any_pair}
use Rattle.order_search.proofs.lasting.write_befores.Goals as goal
use Rattle.order_search.proofs.lasting.write_befores.Goals.{then-other-place, else-other-place}

pub before-lit-requires : goal.before-lit-requires
before-lit-requires c =
    any_pair c.args.subject.now c.args.list c.args.rows.now c.requires.rows c.args.place c.loop-other.other (record { 0 = 0 })
    c.requires.place (omega (arith, c.loop-other-test.true)) (λ e. c.if-other-place.false (sym e))

pub loop-other-preserved : goal.loop-other-preserved
loop-other-preserved c =
    let s = c.args.subject.now in
    let list = c.args.list in
    let rows = c.args.rows.now in
    let place = c.args.place in
    let other = c.loop-other.other in
    let lit = c.if-other-place.lit in
    let says : SaysBefore s list rows place other lit =
    elim c.if-other-place.branch [
      | then-other-place w ↦ none_read s list rows place other lit w.if-other-place.true
      | else-other-place w ↦ subst (λ (x : Lit). SaysBefore s list rows place other x) (sym w.lit-is)
          (rows_read s list rows place other (record { 0 = 0 }) w.before-lit.result w.before-lit.ensures)
    ] in
    each_put no_lit (SaysBefore s list rows place) other c.loop-other.lits.items c.push.new.self.items lit
    c.loop-other.invariant c.in-Ok.ensures.items says

pub returns : goal.returns
returns c =
    each_all no_lit (SaysBefore c.args.subject.now c.args.list c.args.rows.now c.args.place) c.loop-other.other
    (length c.args.rows.now) c.loop-other.lits.items (omega (arith, c.loop-other-test.false, c.loop-other.auto.other-end))
    c.loop-other.invariant
