use Rattle.std.proofs.Common.{ℕ, [], ◌<◌, slice_index_or, length}
use Rattle.spec_model.specs.Completion.{IsRanking}
use Rattle.completion_check.specs.Marks.{AreMarked}
use Rattle.completion_check.specs.Relations.{list_of}
use Rattle.completion_check.specs.Room.{HasPlaces}
use Rattle.completion_check.proofs.relations.RelationPlaces.mark.Given as goal

abbrev pub invariant-loop-attr : goal.invariant-loop-attr
invariant-loop-attr l =
    record {
      room : HasPlaces l.relation l.self-inside.attrs.items;
      ranked : (attr ent : ℕ) → attr < l.attr → ent < length l.relation.entities → IsRanking l.relation.rows ent
          (list_of l.rankings attr ent);
      marked : (attr : ℕ) → attr < l.attr → AreMarked l.relation.rows (slice_index_or l.rankings attr [])
          (slice_index_or l.self-inside.attrs.items attr []);
    }
