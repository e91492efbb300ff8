use Rattle.entity_ties.specs.Parts.{AreCut}
use Rattle.entity_ties.proofs.lists.labels_by_relation.Given as goal

abbrev pub invariant-loop-rel : goal.invariant-loop-rel
invariant-loop-rel l = AreCut l.relations l.rel l.firsts l.labels l.lists
