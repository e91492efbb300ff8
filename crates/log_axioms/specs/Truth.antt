-- What the literals of a log say, and when that is true in a completion.
use Rattle.std.specs.Prelude.{◌≡◌, ℕ, Bool, true, false, List, [], Option, Some, None, option_map, slice_get, Contains}
use Rattle.currency_base.specs.Literals.{var_of, is_negative}
use Rattle.currency_base.specs.declared.ids.RowId.{RowId}
use Rattle.currency_base.specs.declared.lit.Lit.{Lit}
use Rattle.currency_base.specs.declared.row.Row.{Row}
use Rattle.currency_base.specs.declared.value.Value.{Value}
use Rattle.denial_rules.specs.Instances.{field_value}
use Rattle.partial_orders.specs.Pairs.{entity_of}
use Rattle.spec_model.specs.Completion.{Rankings, lists_of, ranking_of, Before}
use Rattle.spec_model.specs.Current.{last_row, current_value}
use Rattle.spec_model.specs.declared.relation.Relation.{Relation}
use Rattle.log_axioms.specs.declared.signed.Signed.{Signed}
use Rattle.refutation_log.specs.declared.statement.Statement.{Statement}
use Rattle.refutation_log.specs.declared.statement.Statement.TheVariants.{Before as SaysBefore, Top, Last, Answer}

-- what a literal of a log with these statements says, if its variable is one of them
abbrev pub meaning : List Statement → Lit → Option Signed
meaning statements lit = option_map (λ s. record { statement = s; negative = is_negative lit })
    (slice_get statements (var_of lit))

-- ---- truth in a completion

-- the rows of a relation; none where it is not there
abbrev pub rows_in : Option Relation → List Row
rows_in None = []
rows_in (Some r) = r.rows

-- the row stands last in the list of its entity
pub record IsTop (c : Rankings) (rel attr : ℕ) (rows : List Row) (row : RowId) : Type 0 where
  pub ent : ℕ
  pub of_entity : entity_of rows row.0 ≡ Some ent
  pub is_last : last_row (ranking_of c rel attr ent) ≡ Some row

-- the current value of the row's entity is the row's value
pub record IsLast (c : Rankings) (rel attr : ℕ) (rows : List Row) (row : RowId) : Type 0 where
  pub ent : ℕ
  pub of_entity : entity_of rows row.0 ≡ Some ent
  pub value : Value
  pub of_row : field_value rows (Some row) attr ≡ Some value
  pub current : current_value c rel rows attr ent ≡ Some value

-- a statement is true in a completion, over whose current instance these tuples are answers
abbrev pub IsTrueIn : List Relation → Rankings → (ℕ → Type 0) → Statement → Type 0
IsTrueIn relations c answers (SaysBefore rel attr earlier later) = Before (lists_of c rel.0 attr.0) earlier later
IsTrueIn relations c answers (Top rel attr row) = IsTop c rel.0 attr.0 (rows_in (slice_get relations rel.0)) row
IsTrueIn relations c answers (Last rel attr row) = IsLast c rel.0 attr.0 (rows_in (slice_get relations rel.0)) row
IsTrueIn relations c answers (Answer tuple) = answers tuple

-- a statement or its negation is true
abbrev pub HoldsIn : List Relation → Rankings → (ℕ → Type 0) → Signed → Type 0
HoldsIn relations c answers s = by s.negative
  where
    by : Bool → Type 0
    by false = IsTrueIn relations c answers s.statement
    by true = IsTrueIn relations c answers s.statement → ⊥

-- a literal of a log is true; one whose variable is no statement says nothing, and is as true as its sign
abbrev pub LitHolds : List Relation → Rankings → (ℕ → Type 0) → List Statement → Lit → Type 0
LitHolds relations c answers statements lit = of (meaning statements lit)
  where
    of : Option Signed → Type 0
    of (Some s) = HoldsIn relations c answers s
    of None = is_negative lit ≡ true

-- a clause is true in a completion: one of its literals is
pub record ClauseHolds (relations : List Relation) (c : Rankings) (answers : ℕ → Type 0)
    (statements : List Statement) (clause : List Lit) : Type 0 where
  pub lit : Lit
  pub is_in : Contains clause lit
  pub is_true : LitHolds relations c answers statements lit
