use Rattle.std.proofs.Common.{◌≡◌, ◌+◌, drop, false}
use Rattle.std.specs.Prelude.{option_map}
use Rattle.text_tokens.specs.Tokens.{string_len_after}
use Rattle.text_tokens.proofs.scan.string_len.Given as goal

abbrev pub invariant-loop-i : goal.invariant-loop-i
invariant-loop-i l = option_map (λ n. n + l.i) (string_len_after l.quoted (drop l.i l.rest)) ≡ string_len_after false l.rest
