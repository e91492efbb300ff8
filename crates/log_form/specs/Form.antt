-- Well-formed logs, and what is at fault first in one that is not.
use Rattle.std.specs.Prelude.{ℕ, ◌+◌, ◌==◌, ◌&&◌, Bool, true, false, not, nat_lt, if◌then◌else◌, List, [], ◌∷◌, length, Option, Some, None, slice_get, slice_index_or}
use Rattle.std.specs.Cmp.Lexicographic.{slice_cmp}
use Rattle.std.specs.List.{filter, list_all}
use Rattle.std.specs.Ordering.{nat_cmp, is_lt}
use Rattle.currency_base.specs.Literals.{var_of}
use Rattle.currency_base.specs.Values.{value_cmp}
use Rattle.currency_base.specs.declared.error_code.ErrorCode.{ErrorCode}
use Rattle.currency_base.specs.declared.error_code.ErrorCode.TheVariants.{UnknownName, DuplicateName, Mismatch, UnknownRow, NotOneEntity}
use Rattle.currency_base.specs.declared.ids.AttrId.{AttrId}
use Rattle.currency_base.specs.declared.ids.RelId.{RelId}
use Rattle.currency_base.specs.declared.ids.RowId.{RowId}
use Rattle.currency_base.specs.declared.row.Row.{Row}
use Rattle.currency_base.specs.declared.value.Cmp.TheVariants.{Eq}
use Rattle.currency_base.specs.declared.value.Value.{Value}
use Rattle.denial_rules.specs.Instances.{field_value, is_compared}
use Rattle.entity_rows.specs.Members.{members}
use Rattle.partial_orders.specs.Pairs.{entity_of}
use Rattle.refutation_log.specs.Steps.{clause_of}
use Rattle.refutation_log.specs.declared.log.Log.{Log}
use Rattle.refutation_log.specs.declared.statement.Statement.{Statement}
use Rattle.refutation_log.specs.declared.statement.Statement.TheVariants.{Before, Top, Last, Answer}
use Rattle.refutation_log.specs.declared.step.Step.{Step}
use Rattle.spec_model.specs.declared.relation.Relation.{Relation}
use Rattle.log_form.specs.declared.form.FormFault.{FormFault}
use Rattle.log_form.specs.declared.form.FormFault.TheVariants as fault

-- ---- the order of statements

-- the place of a statement's kind
abbrev pub kind_place : Statement → ℕ
kind_place (Before rel attr earlier later) = 0
kind_place (Top rel attr row) = 1
kind_place (Last rel attr row) = 2
kind_place (Answer tuple) = 3

-- the numbers of a statement; those of an answer are not compared
abbrev pub numbers_of : Statement → List ℕ
numbers_of (Before rel attr earlier later) = rel.0 ∷ attr.0 ∷ earlier.0 ∷ later.0 ∷ []
numbers_of (Top rel attr row) = rel.0 ∷ attr.0 ∷ row.0 ∷ []
numbers_of (Last rel attr row) = rel.0 ∷ attr.0 ∷ row.0 ∷ []
numbers_of (Answer tuple) = []

-- one statement is below another: by kind, then by their numbers in turn; an answer by the order of the tuples
abbrev pub is_below : List (List Value) → Statement → Statement → Bool
is_below answers (Answer a) (Answer b) = is_lt (slice_cmp value_cmp (slice_index_or answers a []) (slice_index_or answers b []))
is_below answers s t = is_lt (slice_cmp nat_cmp (kind_place s ∷ numbers_of s) (kind_place t ∷ numbers_of t))

-- ---- one statement

-- the relation, if it is there
abbrev pub rows_of : List Relation → RelId → List Row
rows_of relations rel = of (slice_get relations rel.0)
  where
    of : Option Relation → List Row
    of None = []
    of (Some r) = r.rows

-- the relation is there and has the attribute
abbrev pub has_attr : List Relation → RelId → AttrId → Bool
has_attr relations rel attr = of (slice_get relations rel.0)
  where
    of : Option Relation → Bool
    of None = false
    of (Some r) = nat_lt attr.0 (length r.attrs)

-- the relation and the attribute of a statement are there
abbrev pub is_known : List Relation → Statement → Bool
is_known relations (Before rel attr earlier later) = has_attr relations rel attr
is_known relations (Top rel attr row) = has_attr relations rel attr
is_known relations (Last rel attr row) = has_attr relations rel attr
is_known relations (Answer tuple) = true

-- the statement is above the one before it, if there is one
abbrev pub is_above : List (List Value) → Option Statement → Statement → Bool
is_above answers None s = true
is_above answers (Some before) s = is_below answers before s

-- both rows have a value of the attribute, and it is one value
abbrev pub same_value : List Row → ℕ → RowId → RowId → Bool
same_value rows attr a b = is_compared (field_value rows (Some a) attr) Eq (field_value rows (Some b) attr)

-- the row is the first of these
abbrev pub is_first : RowId → List RowId → Bool
is_first row [] = false
is_first row (first ∷ rows) = first.0 == row.0

-- a row is the first one of its entity that has its value; one that is not there is not judged
abbrev pub is_first_alike : List Row → ℕ → RowId → Bool
is_first_alike rows attr row = of (entity_of rows row.0)
  where
    of : Option ℕ → Bool
    of None = true
    of (Some ent) = is_first row (filter (same_value rows attr row) (members rows ent))

-- a `last` names the first row of its entity with its value
abbrev pub is_canonical : List Relation → Statement → Bool
is_canonical relations (Last rel attr row) = is_first_alike (rows_of relations rel) attr.0 row
is_canonical relations s = true

-- there is such a row
abbrev pub is_row : List Row → RowId → Bool
is_row rows row = nat_lt row.0 (length rows)

-- the rows of a statement are there
abbrev pub has_rows : List Relation → Statement → Bool
has_rows relations (Before rel attr earlier later) = is_row (rows_of relations rel) earlier
    && is_row (rows_of relations rel) later
has_rows relations (Top rel attr row) = is_row (rows_of relations rel) row
has_rows relations (Last rel attr row) = is_row (rows_of relations rel) row
has_rows relations (Answer tuple) = true

-- both are there, and they are one number
abbrev pub is_one : Option ℕ → Option ℕ → Bool
is_one (Some a) (Some b) = a == b
is_one a b = false

-- the rows of a `before` are of one entity, and the first number is below the second
abbrev pub is_pair : List Relation → Statement → Bool
is_pair relations (Before rel attr earlier later) =
    is_one (entity_of (rows_of relations rel) earlier.0) (entity_of (rows_of relations rel) later.0) && nat_lt earlier.0 later.0
is_pair relations s = true

-- what is at fault in a statement, if anything is: the first of these checks, by their codes, that it fails
abbrev pub statement_fault : List Relation → List (List Value) → Option Statement → Statement → Option ErrorCode
statement_fault relations answers before s =
    if not (is_known relations s) then Some UnknownName
    else if not (is_above answers before s) then Some DuplicateName
    else if not (is_canonical relations s) then Some Mismatch
    else if not (has_rows relations s) then Some UnknownRow
    else if not (is_pair relations s) then Some NotOneEntity
    else None

-- ---- a log

-- the fault of the statement at a place, if it has one, or else another
abbrev pub fault_or : ℕ → Option ErrorCode → Option FormFault → Option FormFault
fault_or at (Some code) other = Some (fault.Statement at code)
fault_or at None other = other

-- the first of the statements at fault, which stand from a place on after another or none
abbrev pub statements_fault : List Relation → List (List Value) → ℕ → Option Statement → List Statement → Option FormFault
statements_fault relations answers at before [] = None
statements_fault relations answers at before (s ∷ statements) =
    fault_or at (statement_fault relations answers before s) (statements_fault relations answers (at + 1) (Some s) statements)

-- the statements of a step's literals are there
abbrev pub is_step_within : ℕ → Step → Bool
is_step_within statements step = list_all (λ lit. nat_lt (var_of lit) statements) (clause_of step)

-- the first of the steps at fault, which stand from a place on
abbrev pub steps_fault : ℕ → ℕ → List Step → Option FormFault
steps_fault statements at [] = None
steps_fault statements at (step ∷ steps) =
    if is_step_within statements step then steps_fault statements (at + 1) steps else Some (fault.Step at)

-- one fault, or else another
abbrev pub or_else : Option FormFault → Option FormFault → Option FormFault
or_else (Some f) other = Some f
or_else None other = other

-- what is at fault first in a log: a statement, or else a step. A log is well formed where nothing is
abbrev pub first_fault : List Relation → Log → Option FormFault
first_fault relations log =
    or_else (statements_fault relations log.answers 0 None log.statements) (steps_fault (length log.statements) 0 log.steps)
