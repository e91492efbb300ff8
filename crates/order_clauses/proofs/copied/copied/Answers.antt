use Rattle.std.proofs.Common.{◌∙◌, ap, Some, sym, arith}
use Rattle.order_clauses.specs.Listing.{copy_at, copy_labels}
use Rattle.order_clauses.proofs.Adding.{below_none, below_more, below_all}
use Rattle.order_clauses.proofs.CopyClauses.{all_copied, copy_at_is}
use Rattle.order_clauses.proofs.Reading.{item_at}
use Rattle.order_clauses.proofs.copied.copied.Goals as goal

pub loop-k-init : goal.loop-k-init
loop-k-init c = below_none c.args.sayings.now (copy_at c.args.sayings.now.spec c.args.grounds.now) c.args.steps.now

pub copied_by-requires-clause-pairs : goal.copied_by-requires-clause-pairs
copied_by-requires-clause-pairs c =
    let s = c.args.sayings.now.spec in
    let copy = item_at s.copies c.loop-k.k (omega arith) in
    all_copied s c.args.grounds.now c.loop-k.k copy.0 c.as_slice-pairs.result.now c.copies-k-end.ensures.facts c.requires copy.1
    (c.get.ensures ∙ ap Some (sym c.as_slice-pairs.ensures))

pub loop-k-preserved : goal.loop-k-preserved
loop-k-preserved c =
    let s = c.args.sayings.now in
    below_more s (copy_at s.spec c.args.grounds.now) c.loop-k.k _ _ _ c.loop-k.invariant
    (copy_at_is s c.args.grounds.now (record { 0 = c.loop-k.k }) c.as_slice-pairs.result.now _ _
    (c.get.ensures ∙ ap Some (sym c.as_slice-pairs.ensures)) c.in_ok-copied_by.ensures)

pub returns : goal.returns
unfolding copy_labels
returns c = below_all c.args.sayings.now (copy_at c.args.sayings.now.spec c.args.grounds.now) c.loop-k.k _ _ _
    (omega arith) c.loop-k.invariant
