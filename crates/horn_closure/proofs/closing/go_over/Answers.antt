use Rattle.std.proofs.lemmas.Result.{on_ok_weaker}
use Rattle.horn_closure.proofs.ClosedFacts.{gone_over}
use Rattle.horn_closure.proofs.closing.go_over.Goals as goal

pub returns-clause-ok : goal.returns-clause-ok
returns-clause-ok c =
    on_ok_weaker _ (λ looked. gone_over _ _ _ _ _ _ _ _ _ c.slot-slot.ensures.at c.cell_at.ensures
    c.in_ok-join.ensures.ok looked) c.look_at_uses.ensures.ok
