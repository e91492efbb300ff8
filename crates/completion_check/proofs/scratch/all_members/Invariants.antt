use Rattle.std.proofs.Common.{take}
use Rattle.completion_check.specs.Room.{HasMembers}
use Rattle.completion_check.proofs.scratch.all_members.Given as goal

abbrev pub invariant-loop-relation : goal.invariant-loop-relation
invariant-loop-relation l = HasMembers (take l.relation-index l.relations) l.all.items
