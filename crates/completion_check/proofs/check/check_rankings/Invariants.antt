use Rattle.std.proofs.Common.{◌≡◌, ◌<◌, ℕ, [], Some, slice_get, slice_index_or}
use Rattle.spec_model.specs.declared.relation.Relation.{Relation}
use Rattle.completion_check.specs.Relations.{IsRanked, AreAllMarked}
use Rattle.completion_check.specs.Room.{HasAllPlaces}
use Rattle.completion_check.proofs.check.check_rankings.Given as goal

abbrev pub invariant-loop-at : goal.invariant-loop-at
invariant-loop-at l =
    record {
      room : HasAllPlaces l.relations l.places.items;
      ranked : (rel : ℕ) (r : Relation) → rel < l.at → slice_get l.relations rel ≡ Some r → IsRanked r
          (slice_index_or l.completion rel []);
      marked : (rel : ℕ) (r : Relation) → rel < l.at → slice_get l.relations rel ≡ Some r
          → AreAllMarked r (slice_index_or l.completion rel []) (slice_index_or l.places.items rel []);
    }
