-- What a proof unfolds where it reads the arguments of each command.
use Rattle.std.specs.Prelude.{⊤}
use Rattle.program_words.specs.Line.{ask_shape, bare_line, conflicts_shape, explain_shape, forced_shape, golden_shape, line}
use Rattle.program_words.specs.Line.{possible_shape, session_shape, trial_shape, verify_shape}

unfoldable pub whole_line : ⊤
unfolding line bare_line ask_shape verify_shape forced_shape trial_shape explain_shape conflicts_shape golden_shape
    possible_shape session_shape
whole_line = tt

-- what it unfolds where it reads the commands alone
unfoldable pub no_arguments : ⊤
unfolding line bare_line
no_arguments = tt
