use Rattle.possible_values.specs.Steps.{AreDenials}
use Rattle.possible_values.proofs.facts.denials.Given as goal

abbrev pub invariant-loop-one : goal.invariant-loop-one
invariant-loop-one l = AreDenials l.spec.relations l.question l.candidates l.one-index l.facts
