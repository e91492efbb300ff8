use Rattle.std.proofs.lemmas.Option.{slice_get-get_or}
use Rattle.horn_closure.proofs.UseFacts.{each_more}
use Rattle.horn_closure.proofs.uses.add_uses.Goals as goal

pub loop-slot-preserved : goal.loop-slot-preserved
loop-slot-preserved c = record {
  cells = cc;
  each =
      each_more _ c.loop-slot.slot-index _ c.args.premises.now _ _ _ _ _ _
      (slice_get-get_or c.args.premises.now c.loop-slot.slot-index _ c.loop-slot-test.true)
      c.loop-slot.invariant.each c.in_ok-add_use.ensures.ok;
}
