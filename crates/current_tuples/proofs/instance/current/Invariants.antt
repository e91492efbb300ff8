use Rattle.std.proofs.Common.{◌≡◌, ◌<◌, ℕ, [], Some, length, slice_get, slice_index_or}
use Rattle.spec_model.specs.Current.{AreCurrentTuples}
use Rattle.spec_model.specs.declared.relation.Relation.{Relation}
use Rattle.current_tuples.proofs.instance.current.Given as goal

abbrev pub invariant-loop-at : goal.invariant-loop-at
invariant-loop-at l =
    record {
      count : length l.relations ≡ l.at;
      each : (rel : ℕ) (r : Relation) → rel < l.at → slice_get l.spec.relations rel ≡ Some r
          → AreCurrentTuples l.completion rel r (slice_index_or l.relations rel []);
    }
