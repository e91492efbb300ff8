use Rattle.minimal_items.proofs.Marks.{marked_more}
use Rattle.minimal_items.proofs.leaving.marked_list.Goals as goal

pub loop-place-preserved : goal.loop-place-preserved
loop-place-preserved c = record {
  so_far = marked_more c.args.items.now c.args.marks.now c.loop-place.place _ _ c.loop-place.list c.put_marked.new.list
      c.loop-place-test.true c.requires c.loop-place.invariant.so_far c.in_ok-put_marked.ensures;
}
