use Rattle.std.proofs.Common.{◌≡◌, ◌++◌, Ok, drop}
use Rattle.currency_report.specs.Claimed.{currents_said}
use Rattle.currency_report.specs.Outcomes.{and_then}
use Rattle.currency_report.proofs.claim.currents_said.Given as goal

abbrev pub invariant-loop-tree : goal.invariant-loop-tree
invariant-loop-tree l =
    and_then (currents_said l.spec.relations (drop l.tree-index l.trees)) (λ more. Ok (l.list ++ more)) ≡
    currents_said l.spec.relations l.trees
