-- What a proof unfolds to compute `command_of` at words that are written out.
use Rattle.std.specs.Prelude.{⊤}
use Rattle.clap.proofs.OnLiterals.{clap_on_literals}
use Rattle.program_words.specs.Words.{command_of}
use Rattle.program_words.proofs.Written.{whole_line}

unfoldable pub command_on_literals : ⊤
unfolding clap_on_literals command_of whole_line
command_on_literals = tt
