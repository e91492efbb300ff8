-- What can be told of the smallest parts: items are those of the part, and reports can be written.
use Rattle.std.specs.Prelude.{List, All, Contains}
use Rattle.minimal_items.specs.declared.needed.Needed.{Needed}
use Rattle.part_conflicts.specs.declared.found.Conflict.{Conflict}
use Rattle.part_conflicts.specs.declared.found.Found.{Found}
use Rattle.part_conflicts.specs.declared.found.Found.TheVariants as found
use Rattle.report_write.specs.Writable.{IsWritableReport}
use Rattle.spec_items.specs.Items.{items_of}
use Rattle.spec_model.specs.Spec.{Spec}

-- needed items are items of a part
abbrev pub AreListedIn : Spec → List Needed → Type 0
AreListedIn part needed = All (λ n. Contains (items_of part) n.item) needed

-- the items that explain that a part is inconsistent are its own
abbrev pub IsListed : Conflict → Type 0
IsListed c = AreListedIn c.part c.needed

-- items are those of their part, and a report can be written on its relations
abbrev pub IsWritableFound : Found → Type 0
IsWritableFound (found.All list) = All IsListed list
IsWritableFound (found.Undecided part report) = IsWritableReport part.relations report
IsWritableFound (found.Open part spent) =
    All (Contains (items_of part)) spent.items × IsWritableReport spent.part.relations spent.report
