use Rattle.std.proofs.Common.{◌≡◌, take}
use Rattle.minimal_items.specs.Among.{marked_items}
use Rattle.minimal_items.proofs.leaving.marked_list.Given as goal

abbrev pub invariant-loop-place : goal.invariant-loop-place
invariant-loop-place l = record {
  so_far : l.list ≡ marked_items (take l.place l.items) l.marks;
}
