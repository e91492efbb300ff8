use Rattle.std.proofs.Common.{get_or}
use Rattle.std.proofs.lemmas.Option.{slice_get-get_or}
use Rattle.decided_facts.proofs.Showing.{one_more, shown_of}
use Rattle.decided_facts.proofs.rest.decide_rest.Goals as goal

pub loop-place-preserved : goal.loop-place-preserved
loop-place-preserved g c =
    let s = c.args.task.now.spec.now in
    let facts = c.args.task.now.facts.now in
    let place = c.loop-place.place in
    let fact = get_or facts place c.index-task-place.result in
    record {
      shown = one_more s facts place c.loop-place.completions.items c.show.new.completions.items c.loop-place.shown
          c.push.new.self fact c.in-Shown.one c.loop-place.invariant.shown
          (slice_get-get_or facts place c.index-task-place.result c.loop-place-test.true) c.in_ok-one.ensures.consistent
          c.in_ok-one.ensures.more
          (shown_of s c.args.task.now.budget fact c.show.new.completions.items c.in_ok-one.field-0 c.in-Shown.one
          c.in-Shown.is c.in_ok-one.ensures.one)
          c.in_ok-push-in-Shown.ensures.ok;
      marked = c.loop-place.invariant.marked;
    }
