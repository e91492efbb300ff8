use Rattle.std.proofs.Common.{All, take}
use Rattle.report_write.specs.Writable.{HasTextNames}
use Rattle.answer_texts.proofs.names.relations_have_text.Given as goal

abbrev pub invariant-loop-place : goal.invariant-loop-place
invariant-loop-place l = record { texts : All HasTextNames (take l.place l.relations) }
