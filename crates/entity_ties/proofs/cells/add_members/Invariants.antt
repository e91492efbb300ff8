use Rattle.entity_ties.specs.Numbers.{AddsMembers}
use Rattle.entity_ties.proofs.cells.add_members.Given as goal

abbrev pub invariant-loop-ent : goal.invariant-loop-ent
invariant-loop-ent l = AddsMembers l.rel.0 l.ent l.fn.members.items l.members.items
