use Rattle.std.proofs.Common.{◌≡◌, ℕ, List, Some, length, slice_get}
use Rattle.currency_base.specs.declared.value.Value.{Value}
use Rattle.spec_model.specs.Current.{IsCurrentTuple}
use Rattle.spec_model.specs.declared.relation.Relation.{Relation}
use Rattle.current_tuples.proofs.instance.entity_tuples.Given as goal

abbrev pub invariant-loop-ent : goal.invariant-loop-ent
invariant-loop-ent l =
    record {
      count : length l.tuples ≡ l.ent;
      each : (r : Relation) → slice_get l.spec.relations l.rel.0 ≡ Some r → (ent : ℕ) (tuple : List Value)
          → slice_get l.tuples ent ≡ Some tuple → IsCurrentTuple l.completion l.rel.0 r ent tuple;
    }
