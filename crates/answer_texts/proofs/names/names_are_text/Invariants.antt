use Rattle.std.proofs.Common.{All, IsUtf8, take}
use Rattle.answer_texts.proofs.names.names_are_text.Given as goal

abbrev pub invariant-loop-place : goal.invariant-loop-place
invariant-loop-place l = record { texts : All IsUtf8 (take l.place l.names) }
