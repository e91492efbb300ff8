use Rattle.std.proofs.Common.{All, IsUtf8, take}
use Rattle.answer_texts.proofs.names.rows_have_text.Given as goal

abbrev pub invariant-loop-place : goal.invariant-loop-place
invariant-loop-place l = record { texts : All (λ n. IsUtf8 n.name) (take l.place l.rows) }
