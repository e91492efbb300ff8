use Rattle.std.proofs.Common.{◌≡◌, drop, false}
use Rattle.text_tokens.specs.Tokens.{after_gap}
use Rattle.text_tokens.proofs.scan.gap_len.Given as goal

abbrev pub invariant-loop-i : goal.invariant-loop-i
invariant-loop-i l = after_gap l.inside (drop l.i l.rest) ≡ after_gap false l.rest
