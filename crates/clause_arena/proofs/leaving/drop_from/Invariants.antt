use Rattle.std.proofs.Common.{◌≡◌, length}
use Rattle.watch_links.specs.Links.{list_of, rest_from}
use Rattle.clause_arena.specs.Slots.{is_of_other}
use Rattle.clause_arena.proofs.Dropped.{IsDropping}
use Rattle.clause_arena.proofs.leaving.drop_from.Given as goal

abbrev pub invariant-loop-at : goal.invariant-loop-at
invariant-loop-at l = record {
  dropping : IsDropping (is_of_other l.clause) l.before l.at l.owner l.links.lists l.initial.links.lists;
  slots : l.links.slots ≡ l.initial.links.slots;
  room : l.links.room ≡ l.initial.links.room;
}

abbrev pub decreases-loop-at : goal.decreases-loop-at
decreases-loop-at l = length (rest_from l.at (list_of l.links.lists l.owner))
