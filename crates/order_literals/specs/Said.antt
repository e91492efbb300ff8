-- Statements with their signs, and the literals that say them.
use Rattle.std.specs.Prelude.{◌≡◌, ◌⊎◌, Bool, true, false, not, List, Option, Some, option_map, slice_get, Contains}
use Rattle.currency_base.specs.Literals.{var_of, is_negative}
use Rattle.currency_base.specs.declared.ids.AttrId.{AttrId}
use Rattle.currency_base.specs.declared.ids.RelId.{RelId}
use Rattle.currency_base.specs.declared.ids.RowId.{RowId}
use Rattle.currency_base.specs.declared.lit.Lit.{Lit}
use Rattle.refutation_log.specs.declared.statement.Statement.{Statement}
use Rattle.refutation_log.specs.declared.statement.Statement.TheVariants as says

-- a statement, or its negation
pub record Said : Type 0 where
  pub statement : Statement
  pub negative : Bool

-- one row stands before another
abbrev pub before : RelId → AttrId → RowId → RowId → Said
before rel attr earlier later = record { statement = says.Before rel attr earlier later; negative = false }

-- one row does not stand before another
abbrev pub not_before : RelId → AttrId → RowId → RowId → Said
not_before rel attr earlier later = record { statement = says.Before rel attr earlier later; negative = true }

-- a row stands last
abbrev pub top : RelId → AttrId → RowId → Said
top rel attr row = record { statement = says.Top rel attr row; negative = false }

-- a row does not stand last
abbrev pub not_top : RelId → AttrId → RowId → Said
not_top rel attr row = record { statement = says.Top rel attr row; negative = true }

-- the value that a row names is current
abbrev pub last : RelId → AttrId → RowId → Said
last rel attr row = record { statement = says.Last rel attr row; negative = false }

-- the value that a row names is not current
abbrev pub not_last : RelId → AttrId → RowId → Said
not_last rel attr row = record { statement = says.Last rel attr row; negative = true }

-- a statement by itself
abbrev pub positive : Statement → Said
positive s = record { statement = s; negative = false }

-- the other words for it: of two rows, that the one does not stand before the other where the other stands before it
abbrev pub turned : Said → Said
turned s = by s.statement
  where
    by : Statement → Said
    by (says.Before rel attr earlier later) = record { statement = says.Before rel attr later earlier; negative = not s.negative }
    by t = s

-- what a literal says by the statement of its variable
abbrev pub said_by : List Statement → Lit → Option Said
said_by statements lit = option_map (λ s. record { statement = s; negative = is_negative lit })
    (slice_get statements (var_of lit))

-- a literal says a statement with a sign: its variable's statement with its sign is this, or this in other words
abbrev pub Says : List Statement → Lit → Said → Type 0
Says statements lit s = (said_by statements lit ≡ Some s) ⊎ (said_by statements lit ≡ Some (turned s))

-- ---- assignments: a truth for each variable

-- a literal is true under an assignment
abbrev pub IsLitTrue : List Bool → Lit → Type 0
IsLitTrue truths lit = slice_get truths (var_of lit) ≡ Some (not (is_negative lit))

-- a clause is true under an assignment: one of its literals is
pub record IsClauseTrue (truths : List Bool) (clause : List Lit) : Type 0 where
  pub lit : Lit
  pub is_in : Contains clause lit
  pub is_true : IsLitTrue truths lit

-- what is said is true under an assignment: a literal that says it is
pub record IsSaidTrue (statements : List Statement) (truths : List Bool) (s : Said) : Type 0 where
  pub lit : Lit
  pub says : Says statements lit s
  pub is_true : IsLitTrue truths lit
