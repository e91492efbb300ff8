use Rattle.entity_ties.specs.Chosen.{AreAllPlaces}
use Rattle.entity_ties.proofs.chosen.places_of.Given as goal

abbrev pub invariant-loop-rel : goal.invariant-loop-rel
invariant-loop-rel l = AreAllPlaces l.groups l.found l.rel l.rows l.entities
