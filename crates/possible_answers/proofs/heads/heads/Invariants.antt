use Rattle.std.proofs.Common.{◌≡◌, ◌++◌, drop}
use Rattle.possible_answers.specs.Heads.{heads_from}
use Rattle.possible_answers.proofs.heads.heads.Given as goal

abbrev pub invariant-loop-place : goal.invariant-loop-place
invariant-loop-place l =
    l.tuples.items ++ heads_from l.query (drop l.place l.candidates) (drop l.place l.shown)
    ≡ heads_from l.query l.candidates l.shown
