use Rattle.std.proofs.Common.{subst}
use Rattle.part_conflicts.specs.Steps.{AreDecidedTo}
use Rattle.part_conflicts.proofs.Listing.{stopped}
use Rattle.part_conflicts.proofs.parts.conflicts.Goals as goal

pub returns-in-Ok-None : goal.returns-in-Ok-None
returns-in-Ok-None g c =
    let t = c.in_ok-ties.ties in (
      t,
      c.in_ok-ties.ensures,
      subst (AreDecidedTo c.args.spec.now t c.args.budget t.count c.decide_each.new.found) c.in-Ok-None.field-0-is
          c.in-Ok-None.ensures,
    )

pub returns-in-Ok-Some : goal.returns-in-Ok-Some
returns-in-Ok-Some g c =
    let t = c.in_ok-ties.ties in (
      t,
      c.in_ok-ties.ensures,
      stopped c.args.spec.now t c.args.budget c.in-Ok-Some.stopped
          (subst (AreDecidedTo c.args.spec.now t c.args.budget t.count c.decide_each.new.found) c.in-Ok-Some.field-0-is
          c.in-Ok-Some.ensures),
    )
