-- What can be written of what explains a unit.
use Rattle.std.specs.Prelude.{All, Contains}
use Rattle.core_explain.specs.declared.explaining.Explained.{Explained}
use Rattle.core_explain.specs.declared.explaining.Explained.TheVariants as explained
use Rattle.minimal_items.specs.declared.needed.Needed.{Needed}
use Rattle.minimal_items.specs.declared.reducing.Spent.{Spent}
use Rattle.report_model.specs.Writable.{IsWritableCompletion}
use Rattle.report_write.specs.Writable.{IsWritableReport}
use Rattle.spec_items.specs.Items.{items_of}
use Rattle.spec_model.specs.Spec.{Spec}

-- an item of the specification, and a completion that can be written
pub record IsWritableNeeded (s : Spec) (n : Needed) : Type 0 where
  pub item : Contains (items_of s) n.item
  pub without : IsWritableCompletion s.relations n.without

-- items of the specification, and a report on the part that can be written
pub record IsWritableSpent (s : Spec) (spent : Spent) : Type 0 where
  pub items : All (Contains (items_of s)) spent.items
  pub report : IsWritableReport spent.part.relations spent.report

-- what explains a unit can be written
abbrev pub IsWritableExplained : Spec → Explained → Type 0
IsWritableExplained s (explained.Inconsistent needed) = All (IsWritableNeeded s) needed
IsWritableExplained s (explained.Unit needed) = All (IsWritableNeeded s) needed
IsWritableExplained s (explained.NoUnit report) = IsWritableReport s.relations report
IsWritableExplained s (explained.TooMany c) = Unit {0}
IsWritableExplained s (explained.Undecided report) = IsWritableReport s.relations report
IsWritableExplained s (explained.Open spent) = IsWritableSpent s spent
