use Rattle.std.proofs.Common.{List, subst}
use Rattle.std.specs.List.{Contains}
use Rattle.query_model.specs.declared.query.Atom.{Atom}
use Rattle.query_plan.proofs.SameAtoms.{kept_more, push_more}
use Rattle.query_plan.proofs.plan.steps_of.Goals as goal

pub loop-atom-preserved-then-is_among : goal.loop-atom-preserved-then-is_among
loop-atom-preserved-then-is_among c =
    kept_more c.args.atoms.now c.loop-atom.steps.items c.loop-atom.atom-index c.atom-item.result c.loop-atom-test.true
    c.atom-item.is (subst (λ (l : List Atom). Contains l c.atom-item.result) c.deref.ensures.value c.if-is_among.ensures)
    c.loop-atom.invariant

pub loop-atom-preserved : goal.loop-atom-preserved
loop-atom-preserved c =
    push_more c.args.atoms.now c.loop-atom.steps.items c.push.new.self.items c.loop-atom.atom-index c.atom-item.result
    c.loop-atom-test.true c.atom-item.is c.in_ok-push.ensures.items c.loop-atom.invariant
