-- The places so far are marked, and none of them stood before.
use Rattle.std.proofs.Common.{◌≡◌, take}
use Rattle.question_bind.specs.Bound.{rel_ids}
use Rattle.question_bind.proofs.Again.{AreMarked, IsGoing}
use Rattle.question_bind.proofs.same.each_once.Given as goal

abbrev pub invariant-loop-i : goal.invariant-loop-i
invariant-loop-i l = record {
  rels : l.rels ≡ rel_ids (take l.i l.places);
  marked : AreMarked l.count l.seen.items (take l.i l.places);
  going : IsGoing l.named l.places l.i;
}
