use Rattle.std.proofs.Common.{◌≡◌, ◌++◌, drop, option_map}
use Rattle.ucq_answers.specs.Partly.{head_at}
use Rattle.ucq_answers.proofs.binding.Binding.head.Given as goal

abbrev pub invariant-loop-var : goal.invariant-loop-var
invariant-loop-var l = option_map (λ rest. l.tuple ++ rest) (head_at l.self (drop l.var-index l.head)) ≡ head_at l.self l.head
