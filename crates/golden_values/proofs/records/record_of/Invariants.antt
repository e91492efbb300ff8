use Rattle.std.proofs.Common.{◌≡◌, ℕ, Some, length, slice_get}
use Rattle.spec_model.specs.declared.relation.Relation.{Relation}
use Rattle.golden_values.specs.Golden.{IsField}
use Rattle.golden_values.specs.declared.field.Field.{Field}
use Rattle.golden_values.proofs.records.record_of.Given as goal

abbrev pub invariant-loop-attr : goal.invariant-loop-attr
invariant-loop-attr l =
    record {
      count : length l.list ≡ l.attr;
      each : (r : Relation) → slice_get l.fields.spec.now.relations l.fields.rel.0 ≡ Some r → (attr : ℕ) (f : Field)
          → slice_get l.list attr ≡ Some f → IsField l.fields.spec.now l.fields.rel.0 r l.ent attr f;
    }
