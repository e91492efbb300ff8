use Rattle.std.proofs.lemmas.Option.{slice_get-get_or}
use Rattle.horn_closure.proofs.LookFacts.{all_known_more}
use Rattle.horn_closure.proofs.looks.are_known.Goals as goal

pub loop-slot-preserved : goal.loop-slot-preserved
loop-slot-preserved c =
    all_known_more c.args.slots.now c.loop-slot.slot-index _ c.place.result _
    (slice_get-get_or c.args.slots.now c.loop-slot.slot-index 0 c.loop-slot-test.true) c.loop-slot.invariant
    c.if-is_none.ensures c.place.ensures.some
