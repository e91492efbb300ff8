use Rattle.std.proofs.Common.{◌≡◌, ◌<◌, ℕ, [], Some, slice_get, slice_index_or}
use Rattle.spec_model.specs.declared.relation.Relation.{Relation}
use Rattle.completion_check.specs.Relations.{AreInOrder}
use Rattle.completion_check.proofs.check.check_given.Given as goal

abbrev pub invariant-loop-at : goal.invariant-loop-at
invariant-loop-at l = (rel : ℕ) (r : Relation) → rel < l.at → slice_get l.relations rel ≡ Some r → AreInOrder
    (slice_index_or l.places rel []) r.given
