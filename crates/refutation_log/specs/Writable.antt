-- Which logs can be written.
use Rattle.std.specs.Prelude.{◌≡◌, ◌<◌, ◌≤◌, ◌+◌, ◌^◌, ℕ, List, [], ◌∷◌, length, All}
use Rattle.currency_base.specs.Literals.{var_of}
use Rattle.currency_base.specs.declared.lit.Lit.{Lit}
use Rattle.currency_base.specs.declared.value.Value.{Value}
use Rattle.refutation_log.specs.declared.log.Log.{Log}
use Rattle.refutation_log.specs.declared.statement.Statement.{Statement}
use Rattle.refutation_log.specs.declared.statement.Statement.TheVariants.{Before, Top, Last, Answer}
use Rattle.refutation_log.specs.declared.step.Label.{Label}
use Rattle.refutation_log.specs.declared.step.Label.TheVariants as label
use Rattle.refutation_log.specs.declared.step.Step.{Step}
use Rattle.refutation_log.specs.declared.step.Step.TheVariants.{Axiom, OnDemand, Learn}
use Rattle.currency_base.specs.Values.{IsValue}

-- a place that has a number of 32 bits when it is counted from 1
abbrev pub IsPlace : ℕ → Type 0
IsPlace n = n < 4294967295

-- a list of fewer than 2^32 - 1 items, of which this holds
pub record AreFew {A : Type 0} (P : A → Type 0) (xs : List A) : Type 0 where
  pub few : length xs ≤ 4294967294
  pub each : All P xs

-- a literal of the program: its variable is below 2^31
abbrev pub IsLit : Lit → Type 0
IsLit l = var_of l < 2 ^ 31

-- the ids, places and lists of a label
abbrev pub IsWritableLabel : Label → Type 0
IsWritableLabel (label.Given rel attr earlier later) = IsPlace rel.0 × IsPlace attr.0 × IsPlace earlier.0 × IsPlace later.0
IsWritableLabel (label.Transitive rel attr first second third) =
    IsPlace rel.0 × IsPlace attr.0 × IsPlace first.0 × IsPlace second.0 × IsPlace third.0
IsWritableLabel (label.Rule rule rows) = IsPlace rule.0 × AreFew (λ row. IsPlace row.0) rows
IsWritableLabel (label.Copy copy place first second) = IsPlace copy.0 × IsPlace place × IsPlace first.0 × IsPlace second.0
IsWritableLabel (label.Above rel attr row other) = IsPlace rel.0 × IsPlace attr.0 × IsPlace row.0 × IsPlace other.0
IsWritableLabel (label.Top rel attr row) = IsPlace rel.0 × IsPlace attr.0 × IsPlace row.0
IsWritableLabel (label.Last rel attr row) = IsPlace rel.0 × IsPlace attr.0 × IsPlace row.0
IsWritableLabel (label.Value rel attr row) = IsPlace rel.0 × IsPlace attr.0 × IsPlace row.0
IsWritableLabel (label.Match disjunct entities values) =
    IsPlace disjunct × AreFew (λ entity. IsPlace entity.0) entities × AreFew IsValue values

-- the label, the literals and the hints of a step
abbrev pub IsWritableStep : Step → Type 0
IsWritableStep (Axiom l lits) = IsWritableLabel l × AreFew IsLit lits
IsWritableStep (OnDemand l lits) = IsWritableLabel l × AreFew IsLit lits
IsWritableStep (Learn lits hints counted) = AreFew IsLit lits × AreFew IsPlace hints

-- the ids of a statement
abbrev pub IsWritableStatement : Statement → Type 0
IsWritableStatement (Before rel attr earlier later) = IsPlace rel.0 × IsPlace attr.0 × IsPlace earlier.0 × IsPlace later.0
IsWritableStatement (Top rel attr row) = IsPlace rel.0 × IsPlace attr.0 × IsPlace row.0
IsWritableStatement (Last rel attr row) = IsPlace rel.0 × IsPlace attr.0 × IsPlace row.0
IsWritableStatement (Answer tuple) = Unit {0}

-- the answers among the statements name these tuples, one each and in order, by their places from n on
abbrev pub AreAnswered : ℕ → List Statement → List (List Value) → Type 0
AreAnswered n [] answers = answers ≡ []
AreAnswered n (Answer tuple ∷ statements) [] = ⊥
AreAnswered n (Answer tuple ∷ statements) (values ∷ answers) = (tuple ≡ n) × AreAnswered (n + 1) statements answers
AreAnswered n (Before rel attr earlier later ∷ statements) answers = AreAnswered n statements answers
AreAnswered n (Top rel attr row ∷ statements) answers = AreAnswered n statements answers
AreAnswered n (Last rel attr row ∷ statements) answers = AreAnswered n statements answers

-- a log that can be written: its answers are those that its statements name, counted from 0 in order; its ids, places,
-- disjuncts and hints are below 2^32 - 1, its literals and values are such as the program has, and no list has more than
-- 2^32 - 2 items
pub record IsWritable (log : Log) : Type 0 where
  pub answered : AreAnswered 0 log.statements log.answers
  pub answers : All (AreFew IsValue) log.answers
  pub statements : AreFew IsWritableStatement log.statements
  pub steps : AreFew IsWritableStep log.steps
