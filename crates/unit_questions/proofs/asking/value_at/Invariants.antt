-- The unit is one of those of the items that are left.
use Rattle.std.proofs.Common.{◌≡◌, ◌≤◌, drop, slice_get}
use Rattle.report_verify.specs.Supported.{item_needs}
use Rattle.unit_questions.proofs.asking.value_at.Given as goal

abbrev pub invariant-loop-item : goal.invariant-loop-item
invariant-loop-item l = record {
  few : l.left ≤ l.unit;
  same : slice_get (item_needs l.item-index (drop l.item-index l.items)) l.left ≡ slice_get (item_needs 0 l.items) l.unit;
}
