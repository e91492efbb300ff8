-- The pairs so far are asked about.
use Rattle.std.proofs.Common.{◌≡◌, ◌++◌, take}
use Rattle.question_bind.specs.Asked.{asked_pairs}
use Rattle.question_bind.proofs.asked.ask_pairs.Given as goal

abbrev pub invariant-loop-pair : goal.invariant-loop-pair
invariant-loop-pair l = l.asked ≡ l.fn.so_far ++ asked_pairs l.rel.0 (take l.pair-index l.pairs)
