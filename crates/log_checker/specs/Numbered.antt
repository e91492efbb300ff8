-- The test for logs that can be checked.
use Rattle.std.specs.Prelude.{◌&&◌, ◌^◌, ℕ, Bool, nat_lt, List, length}
use Rattle.std.specs.List.{list_all}
use Rattle.currency_base.specs.Literals.{var_of}
use Rattle.currency_base.specs.declared.lit.Lit.{Lit}
use Rattle.refutation_log.specs.declared.statement.Statement.{Statement}
use Rattle.refutation_log.specs.declared.step.Step.{Step}
use Rattle.refutation_log.specs.declared.step.Step.TheVariants.{Axiom, OnDemand, Learn}

-- the literals are of so many statements
abbrev pub are_within : ℕ → List Lit → Bool
are_within statements lits = list_all (λ lit. nat_lt (var_of lit) statements) lits

-- a step's literals are of so many statements, and its hints are few
abbrev pub is_numbered_step : ℕ → Step → Bool
is_numbered_step statements (Axiom label lits) = are_within statements lits
is_numbered_step statements (OnDemand label lits) = are_within statements lits
is_numbered_step statements (Learn lits hints counted) = are_within statements lits && nat_lt (length hints) (2 ^ 32)

-- a log can be checked
abbrev pub is_numbered : List Statement → List Step → Bool
is_numbered statements steps =
    nat_lt (length statements) (2 ^ 32) && nat_lt (length steps) (2 ^ 32) && list_all (is_numbered_step (length statements)) steps
