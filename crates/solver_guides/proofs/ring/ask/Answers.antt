use Rattle.solver_guides.proofs.Asked.{chosen_of}
use Rattle.solver_guides.proofs.ring.ask.Goals as goal

pub returns : goal.returns
returns g c =
    chosen_of (λ i x. (goal.Guide-dyn g (i, x)).choice x c.args.values.now) c.args.guide.now _ _ c.pick.result c.pick.ensures search
