use Rattle.match_candidates.specs.Tables.{AreFor}
use Rattle.match_candidates.proofs.indexed_table.IndexedTable.candidates.Given as goal

abbrev pub invariant-loop-index : goal.invariant-loop-index
invariant-loop-index l = AreFor l.self l.atom l.values l.best
