use Rattle.std.proofs.Common.{◌≡◌, ◌∙◌, ◌<◌, Bool, false, get_or, length, slice_set, subst, sym, arith}
use Rattle.std.proofs.lemmas.List.{length-set}
use Rattle.count_tree.specs.Greatest.{Counts}
use Rattle.count_tree.proofs.Changed.{count_below, count_right}
use Rattle.count_tree.proofs.Written.{whole}
use Rattle.count_tree.proofs.tree.CountTree.set_count.Goals as goal

pub invariant_of-self : goal.invariant_of-self
invariant_of-self c =
    let is = c.self.invariant in
    let inside = c.self.inside in
    let long : length (slice_set inside.counts.items c.args.number c.args.count) ≡ length inside.counts.items =
    length-set inside.counts.items c.args.number c.args.count in
    let within_counts : c.args.number < length inside.counts.items =
    subst (λ (t : Counts). c.args.number < length t.counts) (sym c.self.view_is) c.requires in
    let within : c.args.number < length inside.best.items = omega (arith, c.self.invariant.best_length) in
    let absent : get_or inside.present.items c.args.number false ≡ false =
    sym (subst (λ (b : Bool). b ≡ get_or inside.present.items c.args.number b) c.if-not-index.true c.index.ensures) in
    record {
      few = omega (arith, is.few);
      present_length = is.present_length ∙ sym long;
      best_length = is.best_length ∙ sym long;
      right = count_right _ _ _ is c.args.number within absent c.args.count;
    }

pub mend-requires-clause-others : goal.mend-requires-clause-others
mend-requires-clause-others c =
    let inside = c.self.inside in
    let long : c.len.result ≡ length inside.best.items = omega (arith, c.len.ensures, inside.best.ok.0) in
    let within_counts : c.args.number < length inside.counts.items =
    subst (λ (t : Counts). c.args.number < length t.counts) (sym c.self.view_is) c.requires in
    let within : c.args.number < length inside.best.items = omega (arith, c.self.invariant.best_length) in
    rw (c.deref.ensures.value, c.deref-2.ensures.value, c.deref_mut.ensures.value, long)
    (count_below _ _ _ c.self.invariant c.args.number within c.args.count)

pub invariant_of-self-2 : goal.invariant_of-self-2
invariant_of-self-2 c =
    let is = c.self.invariant in
    let inside = c.self.inside in
    let long : length (slice_set inside.counts.items c.args.number c.args.count) ≡ length inside.counts.items =
    length-set inside.counts.items c.args.number c.args.count in
    whole _ _ inside.best.items c.mend.new.best inside.best.len _ _ (omega (arith, is.few))
    (is.present_length ∙ sym long) (is.best_length ∙ sym long)
    (omega (arith, inside.best.ok.0)) (omega (arith, c.mend.ensures.length, c.deref_mut.ensures.len, inside.best.ok.0))
    c.deref.ensures.value c.deref-2.ensures.value c.mend.ensures.right
