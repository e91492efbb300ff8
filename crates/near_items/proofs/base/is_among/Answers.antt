use Rattle.std.proofs.Common.{◌∙◌, Some, sym, ap, arith}
use Rattle.std.proofs.lemmas.Option.{slice_get-get_or, slice_get_within}
use Rattle.minimal_items.specs.declared.needed.Needed.{Needed}
use Rattle.near_items.proofs.Rules.{among_here, none_more, not_among}
use Rattle.near_items.proofs.base.is_among.Goals as goal

pub returns-then-is_same : goal.returns-then-is_same
returns-then-is_same c =
    sym
    (among_here c.args.item c.args.needed.now c.loop-one.one-index c.one-item.result
    (slice_get-get_or c.args.needed.now c.loop-one.one-index c.one-item.result c.loop-one-test.true
    ∙ ap (λ (x : Needed). Some x) (sym c.one-item.is))
    (c.is_same.ensures.same c.if-is_same.true))

pub loop-one-preserved : goal.loop-one-preserved
loop-one-preserved c =
    none_more c.args.item c.args.needed.now c.loop-one.one-index c.one-item.result c.loop-one.invariant
    (slice_get-get_or c.args.needed.now c.loop-one.one-index c.one-item.result c.loop-one-test.true
    ∙ ap (λ (x : Needed). Some x) (sym c.one-item.is))
    (c.is_same.ensures.differ c.if-is_same.false)

pub returns : goal.returns
returns c =
    sym
    (not_among c.args.item c.args.needed.now
    (λ k one at is.
    c.loop-one.invariant k one (omega (arith, slice_get_within c.args.needed.now k one at, c.loop-one-test.false)) at is))
