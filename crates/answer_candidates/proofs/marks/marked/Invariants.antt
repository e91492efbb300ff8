use Rattle.answer_candidates.specs.Candidates.{AreMarks}
use Rattle.answer_candidates.proofs.marks.marked.Given as goal

abbrev pub invariant-loop-place : goal.invariant-loop-place
invariant-loop-place l = AreMarks l.indexed l.tuples l.gone l.place l.marks.items l.more
