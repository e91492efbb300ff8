use Rattle.std.proofs.Common.{take}
use Rattle.completion_check.specs.Room.{HasAllPlaces}
use Rattle.completion_check.proofs.scratch.all_places.Given as goal

abbrev pub invariant-loop-relation : goal.invariant-loop-relation
invariant-loop-relation l = HasAllPlaces (take l.relation-index l.relations) l.all.items
