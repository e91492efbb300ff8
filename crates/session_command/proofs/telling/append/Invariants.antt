use Rattle.std.proofs.Common.{◌≡◌, ◌++◌, drop}
use Rattle.session_command.proofs.telling.append.Given as goal

abbrev pub invariant-loop-byte : goal.invariant-loop-byte
invariant-loop-byte l = l.into ++ drop l.byte-index l.bytes ≡ l.initial.into ++ l.bytes
