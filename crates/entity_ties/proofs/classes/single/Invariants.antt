use Rattle.entity_ties.specs.Classes.{AreSingle}
use Rattle.entity_ties.proofs.classes.single.Given as goal

abbrev pub invariant-loop-number : goal.invariant-loop-number
invariant-loop-number l = AreSingle l.number l.labels.items l.members
