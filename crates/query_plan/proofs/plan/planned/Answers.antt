use Rattle.std.proofs.Common.{◌<◌, List, length, subst}
use Rattle.query_model.specs.declared.query.Atom.{Atom}
use Rattle.query_plan.proofs.SameAtoms.{moved_on}
use Rattle.query_plan.proofs.plan.planned.Goals as goal

pub loop-left-preserved : goal.loop-left-preserved
loop-left-preserved c =
    let inside = subst (λ (l : List Atom). c.next_place-place.result < length l) c.deref.ensures.value
    c.next_place-place.ensures in
    moved_on c.args.atoms.now c.loop-left.steps.items c.push.new.self.items c.loop-left.left.items
    c.remove-step.new.self.items c.next_place-place.result c.remove-step.result
    inside c.remove-step.ensures.value c.remove-step.ensures.items c.in_ok-push.ensures.items c.loop-left.invariant
