use Rattle.std.proofs.Common.{false, take}
use Rattle.ucq_answers.specs.Found.{Adds, IsAnswerOf}
use Rattle.ucq_answers.specs.Kept.{disjuncts_of}
use Rattle.ucq_answers.proofs.indexed.collect_all.Given as goal

abbrev pub invariant-loop-prepared : goal.invariant-loop-prepared
invariant-loop-prepared l = Adds (IsAnswerOf (take l.prepared-index (disjuncts_of l.disjuncts)) l.relations) l.initial.answers l.answers
    false
