use Rattle.std.proofs.Common.{◌≡◌, ◌∙◌, length, arith}
use Rattle.std.proofs.lemmas.List.{length-set}
use Rattle.count_tree.proofs.Changed.{present_but}
use Rattle.count_tree.proofs.Written.{whole}
use Rattle.count_tree.proofs.tree.CountTree.set_present.Goals as goal

pub mend_up-requires-clause-others : goal.mend_up-requires-clause-others
mend_up-requires-clause-others c =
    let inside = c.self.inside in
    let long : c.len.result ≡ length inside.best.items = omega (arith, c.len.ensures, inside.best.ok.0) in
    rw (c.deref.ensures.value, c.deref-2.ensures.value, c.deref_mut.ensures.value, long)
    (present_but _ _ _ c.self.invariant c.args.number _)

pub invariant_of-self : goal.invariant_of-self
invariant_of-self c =
    let is = c.self.invariant in
    let inside = c.self.inside in
    whole _ _ inside.best.items c.mend_up.new.best inside.best.len _ _ is.few
    (length-set inside.present.items c.args.number _ ∙ is.present_length) is.best_length (omega (arith, inside.best.ok.0))
    (omega (arith, c.mend_up.ensures.length, c.deref_mut.ensures.len, inside.best.ok.0))
    c.deref.ensures.value c.deref-2.ensures.value c.mend_up.ensures.right
