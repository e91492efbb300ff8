use Rattle.std.proofs.Common.{◌≡◌, length, arith}
use Rattle.count_tree.proofs.Written.{whole}
use Rattle.count_tree.proofs.tree.CountTree.fit.Goals as goal

pub invariant_of-drop : goal.invariant_of-drop
invariant_of-drop c =
    let counts = c.in-Ok.counts in
    let present = c.in-Ok-from_elem.present in
    let best = c.in-Ok-from_elem-2.best in
    let counts_long : length counts.items ≡ c.args.numbers = omega (arith, c.in-Ok.ensures.len, counts.ok.0) in
    let present_long : length present.items ≡ c.args.numbers = omega (arith, c.in-Ok-from_elem.ensures.len, present.ok.0) in
    let best_long : length best.items ≡ c.args.numbers = omega (arith, c.in-Ok-from_elem-2.ensures.len, best.ok.0) in
    whole counts.items present.items best.items c.mend_all.new.best best.len _ _
    (omega (arith, c.ranges.numbers.fits)) (omega arith) (omega arith)
    (omega (arith, best.ok.0)) (omega (arith, c.mend_all.ensures.length, c.deref_mut.ensures.len, best.ok.0))
    c.deref.ensures.value c.deref-2.ensures.value c.mend_all.ensures.right
