use Rattle.near_items.specs.Steps.{AreAskedTo}
use Rattle.near_items.proofs.asking.asked_pairs.Given as goal

abbrev pub invariant-loop-asked : goal.invariant-loop-asked
invariant-loop-asked l = record { asked : AreAskedTo l.places l.found l.pairs l.asked-index }
