use Rattle.std.proofs.Common.{IfSome, subst, sym}
use Rattle.edit_checks.specs.Stays.{StaysConsistent}
use Rattle.spec_model.specs.Spec.{Spec}
use Rattle.currency_session.specs.Starts.{IsStartBefore}
use Rattle.currency_session.proofs.Settled.{before}
use Rattle.currency_session.proofs.knowing.edit_known.Goals as goal

pub settle-requires : goal.settle-requires
settle-requires c =
    let stays = c.known_stays-stays.result in
    let start = c.args.start.now in
    subst (λ (s : Spec). IsStartBefore s stays start) (sym c.spec-in-Ok.ensures.value)
    (before c.args.spec.now c.edit.new.self c.args.edit stays start c.in-Ok.ensures.ok
    (λ yes.
    subst (λ (s : Spec). IfSome start.known (StaysConsistent s c.args.edit)) c.spec.ensures.value
    (c.known_stays-stays.ensures yes))
    c.requires.start)
