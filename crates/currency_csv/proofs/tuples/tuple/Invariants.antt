use Rattle.csv.specs.Records.{fields_of}
use Rattle.currency_csv.proofs.AllOk.{SoFar}
use Rattle.currency_csv.specs.Sources.{read_value}
use Rattle.currency_csv.proofs.tuples.tuple.Given as goal

abbrev pub invariant-loop-place : goal.invariant-loop-place
invariant-loop-place l = SoFar (read_value l.number (fields_of l.row)) 0 l.sources l.place l.tuple
