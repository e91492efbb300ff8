use Rattle.std.proofs.Common.{◌≡◌, ◌++◌, drop}
use Rattle.text_write.specs.Spelling.{doubled}
use Rattle.text_write.proofs.spelling.write_doubled.Given as goal

abbrev pub invariant-loop-byte : goal.invariant-loop-byte
invariant-loop-byte l = l.into ++ doubled (drop l.byte-index l.bytes) ≡ l.initial.into ++ doubled l.bytes
