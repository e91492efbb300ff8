use Rattle.std.proofs.Common.{length, refl}
use Rattle.std.proofs.lemmas.Option.{slice_get_read}
use Rattle.report_verify.proofs.Fronts.{all_more, all_taken}
use Rattle.report_verify.proofs.listed.one_breaks.Goals as goal
use Rattle.report_verify.specs.Right.{PairHolds}

pub loop-completion-preserved : goal.loop-completion-preserved
loop-completion-preserved c =
    let cs = c.args.completions.now in
    let at = slice_get_read cs (length cs) c.loop-completion.completion-index c.completion-item.result refl
    c.loop-completion-test.true c.completion-item.is in
    all_more (PairHolds c.args.pair) cs c.loop-completion.completion-index c.completion-item.result at c.loop-completion.invariant
    (c.pair_holds.ensures.holds c.if-not-pair_holds.false)

pub returns-clause-none : goal.returns-clause-none
returns-clause-none c = λ e.
    all_taken (PairHolds c.args.pair) c.args.completions.now c.loop-completion.completion-index
    c.loop-completion-test.false c.loop-completion.invariant
