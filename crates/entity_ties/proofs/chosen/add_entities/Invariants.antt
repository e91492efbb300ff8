use Rattle.std.proofs.Common.{take}
use Rattle.entity_ties.specs.Chosen.{AddsEntities}
use Rattle.entity_ties.proofs.chosen.add_entities.Given as goal

abbrev pub invariant-loop-member : goal.invariant-loop-member
invariant-loop-member l = AddsEntities (take l.member-index l.members) l.fn.found l.found
