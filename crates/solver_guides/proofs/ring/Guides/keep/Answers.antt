use Rattle.std.proofs.Common.{arith}
use Rattle.solver_guides.proofs.Turns.{choice_kept}
use Rattle.solver_guides.proofs.ring.Guides.keep.Goals as goal

pub returns-clause-kept : goal.returns-clause-kept
returns-clause-kept g c =
    λ values. choice_kept (λ guide. (goal.Guide-dyn g (guide.vtable, guide.value)).choice guide.value)
    c.args.self.now.guides.items
    c.swap.new.self.items c.truncate.new.self.items c.args.place values (omega (arith, c.requires, c.args.self.now.guides.ok.0))
    c.swap.ensures.items c.truncate.ensures.items
