use Rattle.std.proofs.Common.{◌≡◌, replicate}
use Rattle.order_search.specs.declared.parting.Tie.TheVariants as tie
use Rattle.order_search.proofs.parting.all_loose.Given as goal

abbrev pub invariant-loop-answer : goal.invariant-loop-answer
invariant-loop-answer l = l.ties ≡ replicate l._answer tie.Loose
