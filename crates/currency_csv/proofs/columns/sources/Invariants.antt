use Rattle.csv.specs.Records.{fields_of}
use Rattle.currency_csv.proofs.AllOk.{SoFar}
use Rattle.currency_csv.specs.Sources.{source_of}
use Rattle.currency_csv.proofs.columns.sources.Given as goal

abbrev pub invariant-loop-number : goal.invariant-loop-number
invariant-loop-number l = SoFar (source_of (fields_of l.header)) 0 l.columns l.number l.sources.items
