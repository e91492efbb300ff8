use Rattle.std.proofs.Common.{subst, sym}
use Rattle.posed_facts.specs.Facts.{FactIn, IsPosable}
use Rattle.report_verify.specs.Right.{EachConsistent}
use Rattle.forced_values.proofs.ForcedClaims.{forced_holds}
use Rattle.forced_values.proofs.marking.holds_by_force.Goals as goal

pub returns-in-Current : goal.returns-in-Current
returns-in-Current c = λ told.
    let s = c.args.spec.now in
    subst (λ f. EachConsistent s (FactIn s.relations f)) (sym c.in-Current.is)
    (forced_holds c.forced_pairs_hold.ensures s c.requires.spec c.in-Current.claim
    (subst (IsPosable s.relations) c.in-Current.is c.requires.fact) (c.is_claim_forced.ensures told))
