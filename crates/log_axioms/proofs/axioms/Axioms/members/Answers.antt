use Rattle.std.proofs.Common.{ap, ◌∙◌, slice_get}
use Rattle.log_axioms.proofs.Indexed.{indexed_at}
use Rattle.log_axioms.proofs.axioms.Axioms.members.Goals as goal

pub returns : goal.returns
returns c r at =
    indexed_at c.self.inside.spec.now.relations c.self.inside.index c.args.rel.0 c.get.result.now r c.self.invariant c.get.ensures
    (ap (λ b. slice_get b.spec.relations c.args.rel.0) c.self.view_is ∙ at)
