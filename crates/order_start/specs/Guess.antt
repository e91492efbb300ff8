-- A first guess at a model. Nothing hangs on it but time, so only its length is told.
use Rattle.std.specs.Prelude.{◌≡◌, Bool, List, length}
use Rattle.refutation_log.specs.declared.statement.Statement.{Statement}

-- a truth for each statement
abbrev pub IsGuess : List Statement → List Bool → Type 0
IsGuess statements truths = length truths ≡ length statements
