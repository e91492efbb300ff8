use Rattle.std.proofs.Common.{◌≡◌, take}
use Rattle.std.specs.List.{All}
use Rattle.ucq_answers.specs.Kept.{IsPreparedFor, disjuncts_of}
use Rattle.ucq_answers.proofs.indexed.prepared_disjuncts.Given as goal

abbrev pub invariant-loop-disjunct : goal.invariant-loop-disjunct
invariant-loop-disjunct l = (disjuncts_of l.all.items ≡ take l.disjunct-index l.disjunct-items)
    × All (IsPreparedFor l.instance.relations) l.all.items
