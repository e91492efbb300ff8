use Rattle.std.proofs.Common.{◌≡◌, ◌+◌, drop}
use Rattle.std.specs.List.{prefix_len}
use Rattle.text_tokens.specs.Tokens.{is_word_byte}
use Rattle.text_tokens.proofs.scan.word_len.Given as goal

abbrev pub invariant-loop-i : goal.invariant-loop-i
invariant-loop-i l = l.i + prefix_len is_word_byte (drop l.i l.rest) ≡ prefix_len is_word_byte l.rest
