use Rattle.std.proofs.Common.{take}
use Rattle.log_form.specs.Indexed.{AreIndexed}
use Rattle.log_form.proofs.index.entity_index.Given as goal

abbrev pub invariant-loop-relation : goal.invariant-loop-relation
invariant-loop-relation l = AreIndexed (take l.relation-index l.relations) l.index.items
