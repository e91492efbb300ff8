use Rattle.std.proofs.Common.{◌≡◌, ℕ, List, Some, length, slice_get}
use Rattle.spec_model.specs.declared.relation.Relation.{Relation}
use Rattle.golden_values.specs.Golden.{AreFields}
use Rattle.golden_values.specs.declared.field.Field.{Field}
use Rattle.golden_values.proofs.records.table_of.Given as goal

abbrev pub invariant-loop-ent : goal.invariant-loop-ent
invariant-loop-ent l =
    record {
      count : length l.table ≡ l.ent;
      each : (r : Relation) → slice_get l.fields.spec.now.relations l.fields.rel.0 ≡ Some r → (ent : ℕ) (fields : List Field)
          → slice_get l.table ent ≡ Some fields → AreFields l.fields.spec.now l.fields.rel.0 r ent fields;
    }
