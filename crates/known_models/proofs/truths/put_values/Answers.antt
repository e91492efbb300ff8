use Rattle.std.proofs.Common.{◌<◌, get_or, length, take}
use Rattle.std.proofs.lemmas.List.{take_more}
use Rattle.std.proofs.lemmas.List.Elements.{All-get_or}
use Rattle.known_models.proofs.Putting.{takes_more}
use Rattle.known_models.proofs.truths.put_values.Goals as goal

pub loop-var-preserved : goal.loop-var-preserved
loop-var-preserved c =
    let vars = c.args.vars.now in
    let at = c.loop-var.var-index in
    let var = get_or vars at 0 in
    let within = All-get_or (λ var. var < length c.args.truths.now) vars at 0 c.loop-var-test.true c.requires.within in
    rw (take_more vars at 0 c.loop-var-test.true, c.set.ensures)
    (takes_more (take at vars) c.args.values.now.given c.args.truths.now c.loop-var.truths var c.in-Some.value within
    c.in-Some.ensures c.loop-var.invariant)
