use Rattle.std.proofs.Common.{All, take}
use Rattle.refutation_log.specs.Writable.{AreFew}
use Rattle.currency_base.specs.Values.{IsValue}
use Rattle.certain_answers.proofs.writable.are_writable.Given as goal

abbrev pub invariant-loop-place : goal.invariant-loop-place
invariant-loop-place l = All (AreFew IsValue) (take l.place l.tuples)
