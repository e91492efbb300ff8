use Rattle.std.proofs.Common.{[], ℕ, List, arith, length, subst, sym}
use Rattle.currency_base.specs.declared.lit.Lit.{Lit}
use Rattle.last_rows.specs.Rows.{no_lit}
use Rattle.order_search.specs.Lasting.{EachIs, SaysBefore}
use Rattle.order_search.proofs.Lasts.{each_all, each_put}
use Rattle.order_search.proofs.lasting.befores_of.Goals as goal

pub loop-place-preserved : goal.loop-place-preserved
loop-place-preserved c =
    let says = λ (i : ℕ) (lits : List Lit). EachIs no_lit (SaysBefore c.args.subject.now c.args.list c.args.rows.now i)
    (length c.args.rows.now) lits in
    each_put [] says c.loop-place.place c.loop-place.lists c.push.new.self c.as_slice.result.now c.loop-place.invariant
    c.in-Ok-push.ensures.ok
    (subst (λ (lits : List Lit). says c.loop-place.place lits) (sym c.as_slice.ensures.value) c.in-Ok.ensures)

pub returns : goal.returns
returns c =
    each_all [] (λ (i : ℕ) (lits : List Lit). EachIs no_lit (SaysBefore c.args.subject.now c.args.list c.args.rows.now i)
    (length c.args.rows.now) lits) c.loop-place.place (length c.args.rows.now) c.loop-place.lists
    (omega (arith, c.loop-place-test.false, c.loop-place.auto.place-end)) c.loop-place.invariant
