use Rattle.std.proofs.Common.{take}
use Rattle.match_candidates.proofs.AlikeEntries.{AreOfEntities}
use Rattle.match_candidates.proofs.place_index.entries_of.Given as goal

abbrev pub invariant-loop-ent : goal.invariant-loop-ent
invariant-loop-ent l = AreOfEntities l.table l.place (take l.ent-index l.ent-items) l.entries.items
