use Rattle.std.proofs.Common.{length, sym, ap, arith}
use Rattle.copy_functions.specs.Copies.{CopyFunction}
use Rattle.spec_limits.proofs.Chain.{too_many_copies, copy_within}
use Rattle.spec_limits.proofs.limits.limit_with_copy.Goals as goal

pub returns-then-copies-ge-MOST_COPIES : goal.returns-then-copies-ge-MOST_COPIES
returns-then-copies-ge-MOST_COPIES c =
    sym (too_many_copies c.args.spec.now c.args.copy.now c.requires
    (omega (arith, c.if-copies-ge-MOST_COPIES.true, ap (length {A = CopyFunction}) c.copies.ensures.value)))

pub returns : goal.returns
returns c =
    sym (copy_within c.args.spec.now c.args.copy.now c.requires
    (omega (arith, c.if-copies-ge-MOST_COPIES.false, ap (length {A = CopyFunction}) c.copies.ensures.value)))
