use Rattle.std.proofs.Common.{take}
use Rattle.value_candidates.specs.Steps.{AreMarks}
use Rattle.value_candidates.proofs.asked.asked_marks.Given as goal

abbrev pub invariant-loop-rel : goal.invariant-loop-rel
invariant-loop-rel l = AreMarks (take l.rel-index l.rels) l.count l.marks.items
