use Rattle.std.proofs.lemmas.Option.{slice_get-get_or}
use Rattle.near_items.proofs.Pairs.{asked_more}
use Rattle.near_items.proofs.asking.asked_pairs.Goals as goal

pub loop-asked-preserved : goal.loop-asked-preserved
loop-asked-preserved c = record {
  asked = asked_more c.args.places.now c.args.pairs.now c.loop-asked.found c.push.new.self c.loop-asked.asked-index c.in-Some.asked
      _ c.loop-asked.invariant.asked (slice_get-get_or c.args.pairs.now c.loop-asked.asked-index _ c.loop-asked-test.true)
      c.in-Some.ensures c.in_ok-push-in-Some.ensures.ok;
}
