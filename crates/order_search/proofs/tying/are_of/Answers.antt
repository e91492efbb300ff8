use Rattle.std.proofs.Common.{List, get_or, take, subst, sym}
use Rattle.std.proofs.lemmas.List.{take_more}
use Rattle.currency_base.specs.declared.lit.Lit.{Lit}
use Rattle.order_search.specs.Tied.{LieIn}
use Rattle.order_search.proofs.TiedSteps.{lie_more}
use Rattle.order_search.proofs.tying.are_of.Goals as goal

pub loop-lit-preserved : goal.loop-lit-preserved
loop-lit-preserved c =
    let lits = c.args.lits.now in
    let at = c.loop-lit.lit-index in
    let d : Lit = record { 0 = 0 } in
    let one : Lit = get_or lits at d in
    subst (λ (front : List Lit). LieIn c.args.parts.now c.args.part c.args.var front) (sym (take_more lits at d c.loop-lit-test.true))
    (lie_more c.args.parts.now c.args.part c.args.var (take at lits) one c.loop-lit.invariant
    (c.lies.ensures c.if-not-lies.false))
