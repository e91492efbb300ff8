-- When a number is at least three to the number of the variables of a question.
use Rattle.std.specs.Prelude.{◌≤◌, ◌^◌, ℕ, List, length}
use Rattle.currency_base.specs.declared.ids.RelId.{RelId}
use Rattle.spec_model.specs.Spec.{Spec}
use Rattle.spec_model.specs.Completion.{Rankings}
use Rattle.spec_model.specs.Consistent.{IsConsistent}
use Rattle.order_literals.specs.Numbers.{numbers_of}
use Rattle.order_literals.specs.Statements.{statements_of}

-- how many variables there are, where the current values of these relations are wanted and there are so many answers
abbrev pub variables_of : Spec → List RelId → ℕ → ℕ
variables_of s currents answers =
    length (statements_of (numbers_of s.relations (record { currents = currents; answers = answers })))

-- a number is at least three to the number of the variables: with the answers over each consistent completion, of which there
-- are as many as is told of it, and with none
pub record IsEnough (s : Spec) (currents : List RelId) (answers_over : Rankings → ℕ) (n : ℕ) : Type 0 where
  pub over_each : (c : Rankings) → IsConsistent s c → 3 ^ variables_of s currents (answers_over c) ≤ n
  pub without : 3 ^ variables_of s currents 0 ≤ n
