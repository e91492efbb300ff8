use Rattle.std.proofs.Common.{All, take}
use Rattle.currency_base.specs.Values.{IsValue}
use Rattle.certain_answers.proofs.writable.are_values.Given as goal

abbrev pub invariant-loop-value : goal.invariant-loop-value
invariant-loop-value l = All IsValue (take l.value-index l.values)
