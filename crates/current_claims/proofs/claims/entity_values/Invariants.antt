use Rattle.std.proofs.Common.{◌≡◌, Some, slice_get}
use Rattle.spec_model.specs.declared.relation.Relation.{Relation}
use Rattle.current_claims.specs.Listed.{AreValuesOf}
use Rattle.current_claims.proofs.claims.entity_values.Given as goal

abbrev pub invariant-loop-attr : goal.invariant-loop-attr
invariant-loop-attr l =
    (r : Relation) → slice_get l.spec.relations l.rel.0 ≡ Some r → AreValuesOf r l.completion l.rel.0 l.ent.0 l.attr l.values
