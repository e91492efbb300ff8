use Rattle.entity_ties.specs.Numbers.{AreNumbered}
use Rattle.entity_ties.proofs.cells.number_entities.Given as goal

abbrev pub invariant-loop-rel : goal.invariant-loop-rel
invariant-loop-rel l = AreNumbered l.relations l.rel l.firsts.items l.members.items
