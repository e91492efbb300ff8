use Rattle.std.proofs.Common.{◌≡◌, drop, length}
use Rattle.log_replay.proofs.MarksSet.{AreAmong}
use Rattle.log_replay.proofs.marks.unmark_all.Given as goal

abbrev pub invariant-loop-lit : goal.invariant-loop-lit
invariant-loop-lit l =
    record {
      among : AreAmong l.marked.items (drop l.lit-index l.lits);
      count : length l.marked.items ≡ length
          l.initial.marked.items;
    }
