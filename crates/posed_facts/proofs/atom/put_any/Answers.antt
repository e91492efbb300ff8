use Rattle.std.proofs.Common.{◌∙◌}
use Rattle.posed_facts.proofs.Places.{one_put}
use Rattle.posed_facts.proofs.atom.put_any.Goals as goal

pub loop-preserved : goal.loop-preserved
loop-preserved c = c.in_ok-push.ensures.ok ∙ one_put c.args.terms.now c.loop.terms c.loop.counter c.loop.invariant
