use Rattle.entity_ties.proofs.Putting.{ArePartsBelow}
use Rattle.entity_ties.proofs.lists.members_by_label.Given as goal

abbrev pub invariant-loop-place : goal.invariant-loop-place
invariant-loop-place l = ArePartsBelow l.members l.labels l.count l.place l.parts
