use Rattle.std.proofs.Common.{length}
use Rattle.solver_guides.proofs.Asked.{asked_of}
use Rattle.solver_guides.proofs.ring.is_fitted.Goals as goal

pub returns-clause-told : goal.returns-clause-told
returns-clause-told g c =
    asked_of (λ i x. (goal.Guide-dyn g (i, x)).may_fit x) (length c.args.start.now) c.is_ok.result _ c.args.guide.now _ _ c.fit.new.self
    c.is_ok.ensures.value c.fit.ensures.1 search
