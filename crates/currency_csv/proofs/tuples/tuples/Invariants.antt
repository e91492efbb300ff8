use Rattle.currency_csv.proofs.AllOk.{SoFar}
use Rattle.currency_csv.specs.Sources.{read_row}
use Rattle.currency_csv.proofs.tuples.tuples.Given as goal

abbrev pub invariant-loop-place : goal.invariant-loop-place
invariant-loop-place l = SoFar (read_row l.sources) 2 l.rows l.place l.tuples
