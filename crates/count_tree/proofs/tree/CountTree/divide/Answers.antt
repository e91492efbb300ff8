use Rattle.std.proofs.Common.{◌≡◌, ◌∙◌, ◌/◌, ◌^◌, ◌++◌, ℕ, length, take, drop, ap, sym, arith}
use Rattle.std.proofs.lemmas.List.{length-map}
use Rattle.count_tree.proofs.Written.{put_back, whole}
use Rattle.count_tree.proofs.tree.CountTree.divide.Goals as goal

pub invariant_of-self : goal.invariant_of-self
invariant_of-self c =
    let is = c.self.invariant in
    let inside = c.self.inside in
    let long : length c.divide_all.new.counts ≡ length inside.counts.items =
    ap length c.divide_all.ensures ∙ length-map c.deref_mut.result.now (λ (count : ℕ). count / 2 ^ c.args.power)
    ∙ ap length c.deref_mut.ensures.value in
    let back : take inside.counts.len (c.divide_all.new.counts ++ drop (length c.divide_all.new.counts)
    inside.counts.items) ≡ c.divide_all.new.counts =
    put_back inside.counts.items c.divide_all.new.counts inside.counts.len (omega (arith, inside.counts.ok.0)) long in
    rw back
    (whole c.divide_all.new.counts _ inside.best.items c.mend_all.new.best inside.best.len _ _
    (omega (arith, is.few)) (is.present_length ∙ sym long)
    (is.best_length ∙ sym long) (omega (arith, inside.best.ok.0))
    (omega (arith, c.mend_all.ensures.length, c.deref_mut-2.ensures.len, inside.best.ok.0))
    (c.deref.ensures.value ∙ back) c.deref-2.ensures.value c.mend_all.ensures.right)
