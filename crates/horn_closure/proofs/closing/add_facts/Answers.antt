use Rattle.std.proofs.lemmas.Option.{slice_get-get_or}
use Rattle.horn_closure.proofs.LookFacts.{given_more}
use Rattle.horn_closure.proofs.closing.add_facts.Goals as goal

pub loop-slot-preserved : goal.loop-slot-preserved
loop-slot-preserved c = record {
  cells = cc;
  given =
      given_more c.args.facts.now c.loop-slot.slot-index _ _ _ _
      (slice_get-get_or c.args.facts.now c.loop-slot.slot-index _ c.loop-slot-test.true)
      c.loop-slot.invariant.given c.in_ok-add.ensures.ok;
}
