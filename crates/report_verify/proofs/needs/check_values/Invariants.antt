use Rattle.std.proofs.Common.{◌≡◌, ◌+◌, All, take}
use Rattle.report_verify.proofs.needs.check_values.Given as goal
use Rattle.report_verify.specs.Supported.{IsDerived, value_needs}

abbrev pub invariant-loop-attr : goal.invariant-loop-attr
invariant-loop-attr l = record {
  derived : All (IsDerived l.units.relations l.units.log)
      (take l.attr (value_needs l.fn.at l.item.rel l.item.ent 0 l.item.values));
  count : l.place ≡ l.fn.from + l.attr;
}
