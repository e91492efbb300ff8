-- The rows of a declaration's tuples.
use Rattle.std.proofs.Common.{◌≡◌, ◌∙◌, ◌⊎◌, ◌+◌, ◌++◌, ℕ, Bool, true, false, List, [], ◌∷◌, map, All, is_some, Option, Some, None, Result, Ok, Err, inl, inr, ap, refl, sym, subst, IfSome}
use Rattle.std.specs.List.{enumerate_from}
use Rattle.std.proofs.lemmas.List.Elements.{All-nil, All-cons, All-head, All-tail, All-same, All-weaker}
use Rattle.currency_base.specs.Values.{kind_of}
use Rattle.currency_base.specs.declared.error_code.ErrorCode.TheVariants.{DuplicateRow}
use Rattle.currency_base.specs.declared.value.Value.{Value}
use Rattle.currency_csv.specs.declared.table.Column.{Column}
use Rattle.spec_syntax.specs.declared.trees.AttrTree.{AttrTree}
use Rattle.text_grammar.specs.declared.named.Named.{Named}
use Rattle.table_bind.specs.Columns.{text_column}
use Rattle.table_bind.specs.Tuples.{AreTuples}
use Rattle.table_rows.specs.Rows.{attribute_values, entities_of, first_repeat, row_names_of, row_of, rows_from, rows_of}
use Rattle.table_rows.specs.Rows.{rows_or_repeat}
use Rattle.table_rows.specs.declared.rows.TableRows.{TableRows}
use Rattle.table_rows.specs.declared.rows.RowFault.{RowFault}
use Rattle.table_rows.specs.declared.rows.RowFault.TheVariants as rows
use Rattle.relation_bind.specs.Declarations.{Declared}
use Rattle.relation_bind.specs.Relations.{attr_column, columns_of, kinds_declared, kinds_of_columns, row_columns, rows_or_refusal, rows_read, IsTable}
use Rattle.relation_bind.specs.Steps.{HaveKinds, RowsHaveKinds}
use Rattle.bind_faults.specs.Faults.{refused_in, IsDetermined, IsReadFault, IsReadFaultOf}
use Rattle.bind_faults.proofs.Outcomes.{determined_fault, read_fault_of}
use Rattle.bind_faults.specs.declared.fault.BindFault.{BindFault}
use Rattle.bind_faults.specs.declared.fault.BindFault.TheVariants.{NoMemory}

-- rows that are due
pub due_rows : (d : Declared) (due : Result TableRows RowFault) (r : TableRows)
    → (◌≡◌ {A = Result TableRows RowFault} (Ok r) (Err rows.NoMemory)) ⊎ (◌≡◌ {A = Result TableRows RowFault} (Ok r) due)
    → ◌≡◌ {A = Result TableRows BindFault} (Ok r) (rows_or_refusal d due)
due_rows d due r (inl e) = cc
due_rows d due r (inr e) = rw (← e)

-- a repeated row name that is due
pub due_refusal : (d : Declared) (due : Result TableRows RowFault) (number : ℕ) (fault : BindFault)
    → (◌≡◌ {A = Result TableRows RowFault} (Err (rows.Repeated number)) (Err rows.NoMemory)) ⊎
    (◌≡◌ {A = Result TableRows RowFault} (Err (rows.Repeated number)) due)
    → (fault ≡ NoMemory) ⊎ (fault ≡ refused_in d.document.name DuplicateRow number)
    → (◌≡◌ {A = Result TableRows BindFault} (Err fault) (Err NoMemory)) ⊎
    (◌≡◌ {A = Result TableRows BindFault} (Err fault) (rows_or_refusal d due))
due_refusal d due number fault (inl e) is = cc
due_refusal d due number fault (inr e) (inl memory) = inl (ap Err memory)
due_refusal d due number fault (inr e) (inr is) = inr (rw (← e, is))

-- ---- the values of rows

-- what holds of the attributes' values in each tuple holds of each row's values
values_of_rows : (P : List Value → Type 0) (named : Bool) (entities : List (List ℕ)) (n : ℕ) (tuples : List (List Value))
    → All (λ tuple. P (attribute_values named tuple)) tuples → All (λ row. P row.values)
    (map (row_of named entities) (enumerate_from n tuples))
values_of_rows P named entities n [] all = All-nil (λ row. P row.values)
values_of_rows P named entities n (tuple ∷ tuples) all =
    All-cons (λ row. P row.values) (row_of named entities (n, tuple))
    (map (row_of named entities) (enumerate_from (n + 1) tuples))
    (All-head (λ t. P (attribute_values named t)) tuple tuples all)
    (values_of_rows P named entities (n + 1) tuples (All-tail (λ t. P (attribute_values named t)) tuple tuples all))

-- the attributes' values stand after the names
after_two : (a b : Column) (rest : List Column) (tuple : List Value) → map kind_of tuple ≡ map (λ c. c.kind) (a ∷ b ∷ rest)
    → map kind_of (attribute_values true tuple) ≡ map (λ c. c.kind) rest
after_two a b rest [] is = cc
after_two a b rest (x ∷ []) is = cc
after_two a b rest (x ∷ (y ∷ tuple)) is = cc

after_one : (a : Column) (rest : List Column) (tuple : List Value) → map kind_of tuple ≡ map (λ c. c.kind) (a ∷ rest)
    → map kind_of (attribute_values false tuple) ≡ map (λ c. c.kind) rest
after_one a rest [] is = cc
after_one a rest (x ∷ tuple) is = cc

kinds_of_attrs : (attrs : List AttrTree) → map (λ c. c.kind) (map attr_column attrs) ≡ map (λ a. a.kind) attrs
kinds_of_attrs [] = refl
kinds_of_attrs (a ∷ attrs) = ap (λ ks. a.kind ∷ ks) (kinds_of_attrs attrs)

attribute_kinds : (row : Option Named) (entity : List ℕ) (attrs : List AttrTree) (tuple : List Value)
    → map kind_of tuple ≡ map (λ c. c.kind) (row_columns row ++ text_column entity ∷ map attr_column attrs)
    → map kind_of (attribute_values (is_some row) tuple) ≡ map (λ a. a.kind) attrs
attribute_kinds None entity attrs tuple is = after_one (text_column entity) (map attr_column attrs) tuple is
    ∙ kinds_of_attrs attrs
attribute_kinds (Some named) entity attrs tuple is =
    after_two (text_column named.name) (text_column entity) (map attr_column attrs) tuple is ∙ kinds_of_attrs attrs

told_rows_are : (named : Bool) (tuples : List (List Value)) (repeated : Option ℕ) (t : TableRows)
    → rows_or_repeat named tuples repeated ≡ Ok t → t.rows ≡ rows_of named tuples
told_rows_are named tuples None t is = cc
told_rows_are named tuples (Some place) t is = cc

-- the rows of a declaration's tuples have a value of each declared attribute's kind
values_read : (d : Declared) (tuples : List (List Value)) (t : TableRows) → HaveKinds (kinds_of_columns d) tuples
    → rows_from (is_some d.row) tuples ≡ Ok t
    → RowsHaveKinds (kinds_declared d) t.rows
unfolding rows_from
values_read d tuples t kinds is =
    All-same (λ row. map kind_of row.values ≡ kinds_declared d) t.rows (rows_of (is_some d.row) tuples)
    (told_rows_are (is_some d.row) tuples (first_repeat 0 [] (row_names_of (is_some d.row) tuples)) t is)
    (values_of_rows (λ values. map kind_of values ≡ kinds_declared d) (is_some d.row)
    (entities_of (is_some d.row) tuples) 0 tuples
    (All-weaker (λ tuple. map kind_of tuple ≡ kinds_of_columns d)
    (λ tuple. map kind_of (attribute_values (is_some d.row) tuple) ≡ kinds_declared d)
    (attribute_kinds d.row d.entity.name d.attrs) tuples kinds))

pub due_values : (d : Declared) (tuples : List (List Value)) (t : TableRows) → HaveKinds (kinds_of_columns d) tuples
    → (◌≡◌ {A = Result TableRows RowFault} (Ok t) (Err rows.NoMemory)) ⊎ (Ok t ≡ rows_from (is_some d.row) tuples)
    → RowsHaveKinds (kinds_declared d) t.rows
due_values d tuples t kinds (inl memory) = cc
due_values d tuples t kinds (inr is) = values_read d tuples t kinds (sym is)

-- ---- where the shelf tells its documents

-- what the tuples give is what the table gives
rows_told : (told : List (List ℕ × List ℕ)) (d : Declared) (name : List ℕ) (columns : List Column)
    (tuples : List (List Value)) (result : Result TableRows BindFault)
    → name ≡ d.document.name → columns ≡ columns_of d → AreTuples told name columns (Ok tuples)
    → (result ≡ Err NoMemory) ⊎ (result ≡ rows_read d tuples) → IsDetermined result → IsTable told d result
rows_told told d name columns tuples result named are read (inl memory) determined = absurd (subst IsDetermined memory determined)
rows_told told d name columns tuples result named are read (inr is) determined = (Ok tuples, rw (named, are) at read, is)

pub table_read : (texts : Option (List (List ℕ × List ℕ))) (d : Declared) (name : List ℕ) (columns : List Column)
    (tuples : List (List Value)) (result : Result TableRows BindFault)
    → name ≡ d.document.name → columns ≡ columns_of d → IfSome texts (λ told. AreTuples told name columns (Ok tuples))
    → (result ≡ Err NoMemory) ⊎ (result ≡ rows_read d tuples) → IsDetermined result → IfSome texts (λ told. IsTable told d result)
table_read None d name columns tuples result named are read exact determined = tt
table_read (Some told) d name columns tuples result named are read exact determined = rows_told told d name columns
    tuples result named are read exact determined

-- a table that is not read
fault_told : (told : List (List ℕ × List ℕ)) (d : Declared) (name : List ℕ) (columns : List Column) (fault : BindFault)
    → name ≡ d.document.name → columns ≡ columns_of d → AreTuples told name columns (Err fault) → IsTable told d (Err fault)
fault_told told d name columns fault named are read = (Err fault, rw (named, are) at read, refl)

pub table_not_read : (texts : Option (List (List ℕ × List ℕ))) (d : Declared) (name : List ℕ) (columns : List Column)
    (fault : BindFault) (result : Result TableRows BindFault)
    → name ≡ d.document.name → columns ≡ columns_of d → (IsDetermined {A = List (List Value)} (Err fault) → IfSome texts
    (λ told. AreTuples told name columns (Err fault)))
    → result ≡ Err fault → IsDetermined result → IfSome texts (λ told. IsTable told d result)
table_not_read None d name columns fault result named are read e determined = tt
table_not_read (Some told) d name columns fault result named are read e determined =
    rw e (fault_told told d name columns fault named are
    (read (determined_fault TableRows (List (List Value)) fault (subst (IsDetermined {A = TableRows}) e determined))))

-- reading rows makes no read fault
or_refusal_reads : (d : Declared) (due : Result TableRows RowFault) → IsReadFault (rows_or_refusal d due) → ⊥
or_refusal_reads d (Ok r) fault = fault
or_refusal_reads d (Err (rows.Repeated number)) fault = fault
or_refusal_reads d (Err rows.NoMemory) fault = fault

pub no_read_fault : (d : Declared) (tuples : List (List Value)) (result : Result TableRows BindFault) →
    (result ≡ Err NoMemory) ⊎ (result ≡ rows_read d tuples)
    → IsReadFault result → ⊥
no_read_fault d tuples result (inl memory) fault = subst IsReadFault memory fault
no_read_fault d tuples result (inr is) fault = or_refusal_reads d (rows_from (is_some d.row) tuples) (subst IsReadFault is fault)

-- reading rows tells of no table that could not be read
pub no_table_fault : (d : Declared) (tuples : List (List Value)) (result : Result TableRows BindFault) →
    (result ≡ Err NoMemory) ⊎ (result ≡ rows_read d tuples)
    → (name : List ℕ) → IsReadFaultOf result name → ⊥
no_table_fault d tuples result exact name h = no_read_fault d tuples result exact (read_fault_of result name h)
