use Rattle.std.proofs.Common.{◌≡◌, drop}
use Rattle.ucq_answers.specs.Partly.{spread}
use Rattle.ucq_answers.proofs.binding.Binding.spread.Given as goal

abbrev pub invariant-loop-equality : goal.invariant-loop-equality
invariant-loop-equality l = spread (drop l.equality-index l.equalities) l.self ≡ spread l.equalities l.initial.self
