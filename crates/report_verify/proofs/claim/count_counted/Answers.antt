use Rattle.std.proofs.Common.{◌+◌, ◌≤◌, length, sym, ap, ap₂, ◌∙◌, arith}
use Rattle.std.proofs.lemmas.List.{take_all}
use Rattle.refutation_log.specs.Counted.{counted_steps}
use Rattle.refutation_log.specs.Steps.{step_of}
use Rattle.report_verify.proofs.Counting.{counted_more}
use Rattle.report_verify.proofs.claim.count_counted.Goals as goal

pub loop-place-preserved : goal.loop-place-preserved
loop-place-preserved c =
    let more = counted_more c.args.steps.now c.loop-place.place (step_of c.get.result) c.get.ensures in
    let before = c.loop-place.invariant.few in
    let one = c.counts-count.ensures.few in
    record {
      same = ap₂ (λ m n. m + n) c.loop-place.invariant.same c.counts-count.ensures.value ∙ sym more;
      few = omega (arith, before, one);
    }

pub returns : goal.returns
returns c =
    let past : length c.args.steps.now ≤ c.loop-place.place = (let at_end = c.loop-place-test.false in let all =
    c.len-place-end.ensures in omega (arith, at_end, all)) in
    c.loop-place.invariant.same ∙ ap counted_steps (take_all c.loop-place.place c.args.steps.now past)
