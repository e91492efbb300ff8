use Rattle.std.proofs.Common.{◌≡◌}
use Rattle.last_rows.specs.Rows.{each_below, lit_of, literals_of}
use Rattle.last_rows.proofs.derivation.write_lits.Given as goal

abbrev pub invariant-loop-row : goal.invariant-loop-row
invariant-loop-row l = l.lits.items ≡ each_below (lit_of (literals_of l.list) l.first l.own) l.row
