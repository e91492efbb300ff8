use Rattle.last_rows.specs.Rows.{literals_of}
use Rattle.last_rows.specs.Underway.{AreNames}
use Rattle.last_rows.proofs.derivation.write_names.Given as goal

abbrev pub invariant-loop-row : goal.invariant-loop-row
invariant-loop-row l = AreNames (literals_of l.list) l.row l.lits.items
