use Rattle.std.proofs.Common.{IfSome, Option, subst, sym}
use Rattle.edit_checks.specs.Stays.{StaysConsistent}
use Rattle.spec_model.specs.Completion.{Rankings}
use Rattle.currency_session.proofs.knowing.known_stays.Goals as goal

pub returns-in-Some : goal.returns-in-Some
returns-in-Some c =
    λ is.
    subst (λ (o : Option Rankings). IfSome o (StaysConsistent c.args.spec.now c.args.edit.now)) (sym c.in-Some.is)
    (c.stays_consistent.ensures is)
