-- The fields so far are written.
use Rattle.std.specs.Prelude.{take}
use Rattle.record_text.proofs.Begun.{HasBegun}
use Rattle.record_text.proofs.write.put_record.Given as goal

abbrev pub invariant-loop-field : goal.invariant-loop-field
invariant-loop-field g l = HasBegun g.W.Write.contents l.fn.writer l.writer (take l.field-index l.field-items)
