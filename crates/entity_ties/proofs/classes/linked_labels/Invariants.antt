use Rattle.entity_ties.proofs.Linked.{IsSoFar}
use Rattle.entity_ties.proofs.classes.linked_labels.Given as goal

abbrev pub invariant-loop-link : goal.invariant-loop-link
invariant-loop-link l = IsSoFar l.count l.links l.link-index l.labels.items l.members
