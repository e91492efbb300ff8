-- The relation that a `relation` statement declares, from its table.
use Rattle.std.specs.Prelude.{◌≡◌, ℕ, Bool, true, false, List, [], ◌∷◌, ◌++◌, map, Option, Some, None, is_some, Result, Ok, Err, MatchOption, if◌then◌else◌}
use Rattle.std.specs.List.{list_any}
use Rattle.std.specs.Str.{bytes_eq}
use Rattle.currency_base.specs.declared.error_code.ErrorCode.TheVariants as code
use Rattle.currency_base.specs.declared.value.ValueKind.{ValueKind}
use Rattle.currency_base.specs.declared.value.Value.{Value}
use Rattle.currency_csv.specs.declared.table.Column.{Column}
use Rattle.table_bind.specs.Columns.{column_of, text_column}
use Rattle.table_bind.specs.Tuples.{AreTuples}
use Rattle.table_rows.specs.Rows.{rows_from}
use Rattle.table_rows.specs.declared.rows.TableRows.{TableRows}
use Rattle.table_rows.specs.declared.rows.RowFault.{RowFault}
use Rattle.table_rows.specs.declared.rows.RowFault.TheVariants as rows
use Rattle.spec_names.specs.Names.{place_of}
use Rattle.spec_model.specs.declared.relation.Attr.{Attr}
use Rattle.spec_model.specs.declared.relation.Relation.{Relation}
use Rattle.spec_syntax.specs.declared.trees.AttrTree.{AttrTree}
use Rattle.text_grammar.specs.declared.named.Named.{Named}
use Rattle.relation_bind.specs.Declarations.{Declared}
use Rattle.bind_faults.specs.Faults.{refused_at, refused_in, and_then}
use Rattle.bind_faults.specs.declared.fault.BindFault.{BindFault}
use Rattle.bind_faults.specs.declared.fault.BindFault.TheVariants.{NoMemory}

-- the column of the rows' names, where the relation names its rows
abbrev pub row_columns : Option Named → List Column
row_columns None = []
row_columns (Some named) = text_column named.name ∷ []

-- the column of an attribute
abbrev pub attr_column : AttrTree → Column
attr_column a = column_of a.kind a.name.name

-- the columns of a relation's table: the rows' names, the entities, and the attributes
abbrev pub columns_of : Declared → List Column
columns_of d = row_columns d.row ++ text_column d.entity.name ∷ map attr_column d.attrs

-- the kinds of the values of a declaration's tuples
abbrev pub kinds_of_columns : Declared → List ValueKind
kinds_of_columns d = map (λ c. c.kind) (columns_of d)

-- the kinds of the declared attributes
abbrev pub kinds_declared : Declared → List ValueKind
kinds_declared d = map (λ a. a.kind) d.attrs

-- the attribute that is declared
abbrev pub attr_of : AttrTree → Attr
attr_of a = record { name = a.name.name; kind = a.kind }

-- the first attribute whose name stands before
abbrev pub repeated_attr : List (List ℕ) → List AttrTree → Option Named
repeated_attr so_far [] = None
repeated_attr so_far (a ∷ attrs) =
    if list_any (bytes_eq a.name.name) so_far then Some a.name else repeated_attr (so_far ++ a.name.name ∷ []) attrs

-- a name that is taken is refused: the relation's, and then an attribute's
abbrev pub taken_name : Declared → Bool → Option Named → Option BindFault
taken_name d true repeated = Some (refused_at code.DuplicateName d.name)
taken_name d false (Some named) = Some (refused_at code.DuplicateName named)
taken_name d false None = None

-- the fault of a declaration before its table is read, where these names of relations are taken
unfoldable pub head_fault : List (List ℕ) → Declared → Option BindFault
head_fault taken d = taken_name d (is_some (place_of taken d.name.name)) (repeated_attr [] d.attrs)

-- the refusal of a row name that is taken
abbrev pub row_refusal : Declared → RowFault → BindFault
row_refusal d (rows.Repeated number) = refused_in d.document.name code.DuplicateRow number
row_refusal d rows.NoMemory = NoMemory

-- the rows of a table, or the refusal of one of them
abbrev pub rows_or_refusal : Declared → Result TableRows RowFault → Result TableRows BindFault
rows_or_refusal d (Ok r) = Ok r
rows_or_refusal d (Err fault) = Err (row_refusal d fault)

-- the rows of a declaration's tuples
abbrev pub rows_read : Declared → List (List Value) → Result TableRows BindFault
rows_read d tuples = rows_or_refusal d (rows_from (is_some d.row) tuples)

-- the relation of a declaration and the rows of its table
abbrev pub relation_of : Declared → TableRows → Relation
relation_of d r = record {
  name = d.name.name;
  attrs = map attr_of d.attrs;
  rows = r.rows;
  entities = r.entities;
  given = [];
}

-- what the table of a declaration gives: the rows of the tuples that are read, or the first fault
abbrev pub IsTable : List (List ℕ × List ℕ) → Declared → Result TableRows BindFault → Type 0
IsTable told d table =
    (tuples : Result (List (List Value)) BindFault) × AreTuples told d.document.name (columns_of d) tuples ×
    (table ≡ and_then tuples (rows_read d))

-- what a declaration in which no name is taken makes: its table is read, and gives the relation
abbrev pub IsRead : List (List ℕ × List ℕ) → Declared → Result Relation BindFault → Type 0
IsRead told d outcome =
    (table : Result TableRows BindFault) × IsTable told d table × (outcome ≡ and_then table (λ t. Ok (relation_of d t)))

-- what a declaration makes, where these names of relations are taken: the refusal of a name, or else what its table gives
abbrev pub IsDeclared : List (List ℕ × List ℕ) → List (List ℕ) → Declared → Result Relation BindFault → Type 0
IsDeclared told taken d outcome = MatchOption (head_fault taken d) (IsRead told d outcome) (λ fault. outcome ≡ Err fault)

-- no name in the declaration is taken, and its table is the document of this name
abbrev pub IsTableOf : List (List ℕ) → Declared → List ℕ → Type 0
IsTableOf taken d name = (head_fault taken d ≡ None) × (d.document.name ≡ name)
