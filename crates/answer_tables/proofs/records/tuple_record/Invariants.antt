use Rattle.std.proofs.Common.{◌≡◌, ◌++◌, drop, map}
use Rattle.record_text.specs.Fields.{value_bytes}
use Rattle.answer_tables.proofs.records.tuple_record.Given as goal

abbrev pub invariant-loop-value : goal.invariant-loop-value
invariant-loop-value l = l.record ++ map value_bytes (drop l.value-index l.tuple) ≡ map value_bytes l.tuple
