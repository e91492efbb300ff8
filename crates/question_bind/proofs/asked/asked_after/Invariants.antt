-- What is asked about so far, in front of what is left, is the whole.
use Rattle.std.proofs.Common.{◌≡◌, ◌++◌, drop}
use Rattle.question_bind.specs.Asked.{all_asked}
use Rattle.question_bind.specs.Steps.{asked_each}
use Rattle.question_bind.proofs.asked.asked_after.Given as goal

abbrev pub invariant-loop-place : goal.invariant-loop-place
invariant-loop-place l = l.asked ++ all_asked (asked_each (drop l.place l.heads) (drop l.place l.lists)) ≡
    l.fn.so_far ++ all_asked (asked_each l.heads l.lists)
