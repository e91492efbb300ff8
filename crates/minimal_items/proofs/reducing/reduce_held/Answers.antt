use Rattle.std.proofs.Common.{ap, length, subst}
use Rattle.minimal_items.specs.Trials.{AreReducedOrSpent, AreReducedUpTo}
use Rattle.minimal_items.proofs.Reductions.{explained}
use Rattle.minimal_items.proofs.reducing.reduce_held.Goals as goal

pub returns-in-Ok-None : goal.returns-in-Ok-None
returns-in-Ok-None g c =
    let s = c.args.spec.now in
    let q = c.args.question.now in
    let marks = c.leave_out_each.new.marks in
    let needed = c.leave_out_each.new.needed in
    let reduced = subst (AreReducedOrSpent s q c.args.budget (length c.args.items.now) marks needed) c.in-Ok-None.field-0-is
    c.in-Ok-None.ensures in
    explained s q marks needed
    (subst (λ n. AreReducedUpTo s q n marks needed) (ap length c.requires.items) reduced)
