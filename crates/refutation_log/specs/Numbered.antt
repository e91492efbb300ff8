-- What a check of a log asks for.
use Rattle.std.specs.Prelude.{◌<◌, ◌^◌, ℕ, List, length, All}
use Rattle.refutation_log.specs.Counted.{AreWithin}
use Rattle.refutation_log.specs.declared.statement.Statement.{Statement}
use Rattle.refutation_log.specs.declared.step.Step.{Step}
use Rattle.refutation_log.specs.declared.step.Step.TheVariants.{Axiom, OnDemand, Learn}

-- a step has fewer hints than 2^32
abbrev pub HasFewHints : Step → Type 0
HasFewHints (Axiom label lits) = Unit {0}
HasFewHints (OnDemand label lits) = Unit {0}
HasFewHints (Learn lits hints counted) = length hints < 2 ^ 32

-- the literals are of the log's statements, and there are no more steps, statements and hints than numbers for them
pub record IsNumbered (statements : List Statement) (steps : List Step) : Type 0 where
  pub within : AreWithin (length statements) steps
  pub few_statements : length statements < 2 ^ 32
  pub few_steps : length steps < 2 ^ 32
  pub few_hints : All HasFewHints steps
