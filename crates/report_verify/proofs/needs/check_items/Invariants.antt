use Rattle.std.proofs.Common.{◌≡◌, All, length, take}
use Rattle.report_verify.proofs.needs.check_items.Given as goal
use Rattle.report_verify.specs.Supported.{IsDerived, item_needs}

abbrev pub invariant-loop-at : goal.invariant-loop-at
invariant-loop-at l = record {
  derived : All (IsDerived l.units.relations l.units.log) (item_needs 0 (take l.at l.items));
  count : l.place ≡ length (item_needs 0 (take l.at l.items));
}
