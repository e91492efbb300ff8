use Rattle.std.proofs.lemmas.Result.{on_ok_weaker}
use Rattle.forced_closure.proofs.Adding.{adds_both}
use Rattle.forced_closure.proofs.copied.push_pair.Goals as goal

pub returns : goal.returns
returns c =
    on_ok_weaker c.push-2.result
    (λ pushed. adds_both c.args.subject.now c.args.gathered.now c.push.new.self c.push-2.new.self c.args.copy
    c.args.place c.args.pair c.slots_at-from.result.0 c.slots_at-from.result.1
    c.slots_at-from.ensures c.in_ok-push.ensures pushed)
    c.push-2.ensures
