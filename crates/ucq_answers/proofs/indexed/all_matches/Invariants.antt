use Rattle.std.proofs.Common.{length, ◌≤◌}
use Rattle.std.specs.List.{All}
use Rattle.ucq_answers.specs.Found.{IsMatchAmong}
use Rattle.ucq_answers.specs.Kept.{disjuncts_of}
use Rattle.ucq_answers.proofs.indexed.all_matches.Given as goal

abbrev pub invariant-loop-place : goal.invariant-loop-place
invariant-loop-place l = All (IsMatchAmong (disjuncts_of l.disjuncts) l.relations l.tuple) l.all.items × (length l.all.items ≤ l.at_most)
