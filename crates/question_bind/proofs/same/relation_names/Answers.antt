-- No relation before has the name.
use Rattle.std.proofs.Common.{sym}
use Rattle.spec_model.specs.declared.relation.Relation.{Relation}
use Rattle.spec_names.proofs.Places.{none_before}
use Rattle.question_bind.proofs.same.relation_names.Goals as goal

pub add_copy-requires : goal.add_copy-requires
add_copy-requires c =
    rw c.loop-relation.invariant (none_before (λ (r : Relation). r.name) c.args.relations.now
    c.loop-relation.relation-index c.relation-item.result c.requires c.loop-relation-test.true (sym c.relation-item.is))
