-- The names so far are copied.
use Rattle.std.proofs.Common.{◌≡◌, map, take}
use Rattle.spec_model.specs.declared.relation.Relation.{Relation}
use Rattle.question_bind.proofs.same.relation_names.Given as goal

abbrev pub invariant-loop-relation : goal.invariant-loop-relation
invariant-loop-relation l = l.names ≡ map (λ (r : Relation). r.name) (take l.relation-index l.relations)
