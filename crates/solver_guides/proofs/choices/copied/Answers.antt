use Rattle.std.proofs.Common.{false}
use Rattle.std.proofs.lemmas.List.{take_more}
use Rattle.std.proofs.lemmas.Option.{get_or_from_slice_get, slice_get_within}
use Rattle.solver_guides.proofs.choices.copied.Goals as goal

pub loop-var-preserved : goal.loop-var-preserved
loop-var-preserved c =
    let read = get_or_from_slice_get c.args.start.now c.loop-var.var c.value.result false c.value.ensures in
    let more = take_more c.args.start.now c.loop-var.var false (slice_get_within c.args.start.now c.loop-var.var
    c.value.result c.value.ensures) in
    cc c.in-Ok-push.ensures.items
