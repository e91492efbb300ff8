use Rattle.std.proofs.Common.{take}
use Rattle.completion_check.specs.Marks.{AreMarksOf, SameElsewhere}
use Rattle.completion_check.proofs.marks.mark_list.Given as goal

abbrev pub invariant-loop-place : goal.invariant-loop-place
invariant-loop-place l =
    record {
      marks : AreMarksOf l.rows l.ent (take l.place l.list) l.places;
      elsewhere : SameElsewhere l.rows l.ent l.initial.places l.places;
    }
