use Rattle.std.proofs.Common.{◌≡◌, ◌++◌, drop, false}
use Rattle.text_grammar.specs.Words.{unquoted}
use Rattle.text_grammar.proofs.names.unquoted.Given as goal

abbrev pub invariant-loop-byte : goal.invariant-loop-byte
invariant-loop-byte l = l.content ++ unquoted l.quoted (drop l.byte-index l.bytes) ≡ unquoted false l.bytes
