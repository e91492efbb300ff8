-- What is written, and the text of the records that are left, are the text of all.
use Rattle.std.specs.Prelude.{◌≡◌, ◌++◌, drop}
use Rattle.csv.specs.Writing.{writer_pending, writer_under}
use Rattle.record_text.specs.Text.{records_text}
use Rattle.record_text.specs.Writers.{IsBetween}
use Rattle.record_text.proofs.write.records_text.Given as goal

abbrev pub invariant-loop-record : goal.invariant-loop-record
invariant-loop-record l = record {
  between : IsBetween l.writer;
  text : ((writer_under l.writer).items ++ writer_pending l.writer) ++ records_text (drop l.record-index l.records)
      ≡ records_text l.records;
}
