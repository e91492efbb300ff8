use Rattle.std.proofs.Common.{◌≡◌, Some, slice_get}
use Rattle.spec_model.specs.declared.relation.Relation.{Relation}
use Rattle.current_tuples.proofs.Fronts.{IsFront}
use Rattle.current_tuples.proofs.instance.entity_tuple.Given as goal

abbrev pub invariant-loop-attr : goal.invariant-loop-attr
invariant-loop-attr l =
    (r : Relation) → slice_get l.spec.relations l.rel.0 ≡ Some r → IsFront l.completion l.rel.0 r l.ent.0 l.attr l.tuple
