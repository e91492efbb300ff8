use Rattle.std.proofs.Common.{◌∙◌}
use Rattle.near_items.proofs.Everything.{as_many_marks, fails_never}
use Rattle.spec_items.specs.Items.{items_of}
use Rattle.near_items.proofs.seeking.seek_all.Goals as goal

pub reduce-requires-clause-marks : goal.reduce-requires-clause-marks
reduce-requires-clause-marks g c =
    as_many_marks c.args.items.now (items_of c.args.spec.now) c.deref.result.now c.requires.items
    (c.deref.ensures.value ∙ c.in_ok-marks.ensures)

pub unreachable-requires : goal.unreachable-requires
unreachable-requires g c =
    fails_never c.all_items.ensures c.args.spec.now c.args.question.now c.args.budget c.requires.holds c.args.items.now
    c.requires.items c.deref.result.now (c.deref.ensures.value ∙ c.in_ok-marks.ensures) _ _ c.in-Ok-Fails.field-0-is
    c.in-Ok-Fails.ensures
