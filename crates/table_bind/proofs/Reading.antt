-- What is read of a table's document.
use Rattle.std.proofs.Common.{◌≡◌, ◌∙◌, ◌⊎◌, ◌≤◌, ℕ, List, length, Option, Some, None, Result, Ok, Err, inl, inr, ap, subst, IfSome}
use Rattle.currency_base.specs.declared.value.Value.{Value}
use Rattle.currency_csv.specs.Table.{AreRecordsOf, table_of}
use Rattle.currency_csv.specs.declared.table.Column.{Column}
use Rattle.currency_csv.specs.declared.table.Table.{Table}
use Rattle.currency_csv.specs.declared.table.TableFault.{TableFault}
use Rattle.currency_csv.specs.declared.table.TableFault.TheVariants as csv
use Rattle.bind_faults.specs.Faults.{IsDetermined, IsReadFault, IsReadFaultOf}
use Rattle.bind_faults.proofs.Outcomes.{read_fault_of}
use Rattle.bind_faults.specs.declared.fault.BindFault.{BindFault}
use Rattle.bind_faults.specs.declared.fault.BindFault.TheVariants.{Refused, CopyDiffers, Limit, ReadFault, NoMemory}
use Rattle.table_bind.specs.Tuples.{AreTuples, table_bound, table_refusal, tuples_read}
use Rattle.table_bind.specs.Steps.{Reads, ReadsTuples}

-- the tuples of a table that was read
pub of_table : (name : List ℕ) (columns : List Column) (bytes : List ℕ) (t : Table)
    → (◌≡◌ {A = Result Table TableFault} (Ok t) (Err csv.NoMemory)) ⊎
    ((records : List (List (List ℕ))) × AreRecordsOf bytes records × (◌≡◌ {A = Result Table TableFault} (Ok t)
    (table_of columns records)))
    → ReadsTuples name columns bytes (Ok t.tuples)
unfolding ReadsTuples tuples_read
of_table name columns bytes t (inl e) = cc
of_table name columns bytes t (inr (records, are, e)) = inr (records, are, ap (tuples_read name) e)

-- the refusal of a table that was not
pub of_fault : (name : List ℕ) (columns : List Column) (bytes : List ℕ) (fault : TableFault) (refusal : BindFault)
    → (◌≡◌ {A = Result Table TableFault} (Err fault) (Err csv.NoMemory)) ⊎
    ((records : List (List (List ℕ))) × AreRecordsOf bytes records ×
    (◌≡◌ {A = Result Table TableFault} (Err fault) (table_of columns records)))
    → (refusal ≡ NoMemory) ⊎ (refusal ≡ table_refusal name fault)
    → ReadsTuples name columns bytes (Err refusal)
unfolding ReadsTuples tuples_read
of_fault name columns bytes fault refusal h (inl memory) = inl (ap Err memory)
of_fault name columns bytes fault refusal (inl e) (inr is) =
    let no_memory : fault ≡ csv.NoMemory = cc in
    inl (ap Err (is ∙ ap (table_refusal name) no_memory))
of_fault name columns bytes fault refusal (inr (records, are, e)) (inr is) = inr (records, are, rw (← e) (ap Err is))

-- what the bytes of the document give is what the table gives
read_whole : (told : List (List ℕ × List ℕ)) (name : List ℕ) (columns : List Column) (bytes : List ℕ)
    (result : Result (List (List Value)) BindFault)
    → Reads told name (Ok bytes) → ReadsTuples name columns bytes result → IsDetermined result
    → AreTuples told name columns result
unfolding AreTuples ReadsTuples
read_whole told name columns bytes result (is, within) (inl memory) determined = absurd (subst IsDetermined memory determined)
read_whole told name columns bytes result (is, within) (inr (records, are, due)) determined =
    inr (
      subst (λ (bs : List ℕ). length bs ≤ table_bound) is within,
      records,
      subst (λ (bs : List ℕ). AreRecordsOf bs records) is are,
      due,
    )

-- a document that is too long
read_long : (told : List (List ℕ × List ℕ)) (name : List ℕ) (columns : List Column) (fault : BindFault)
    → Reads told name (Err fault) → IsDetermined {A = List (List Value)} (Err fault) → AreTuples told name columns (Err fault)
unfolding AreTuples
read_long told name columns (Refused refusal) reads determined = absurd reads
read_long told name columns (CopyDiffers document line target source) reads determined = absurd reads
read_long told name columns (Limit k) (is, longer) determined = inl (longer, ap (λ n. Err (Limit n)) is)
read_long told name columns (ReadFault table) reads determined = absurd determined
read_long told name columns NoMemory reads determined = absurd determined

-- reading records makes no read fault
tuples_reads : (name : List ℕ) (t : Result Table TableFault) → IsReadFault (tuples_read name t) → ⊥
unfolding tuples_read
tuples_reads name (Ok t) fault = fault
tuples_reads name (Err (csv.Ragged number)) fault = fault
tuples_reads name (Err (csv.MissingColumn place)) fault = fault
tuples_reads name (Err (csv.BadInt number place)) fault = fault
tuples_reads name (Err csv.NoMemory) fault = fault

pub no_read_fault : (name : List ℕ) (columns : List Column) (bytes : List ℕ) (result : Result (List (List Value)) BindFault)
    → ReadsTuples name columns bytes result → IsReadFault result → ⊥
unfolding ReadsTuples
no_read_fault name columns bytes result (inl memory) fault = subst IsReadFault memory fault
no_read_fault name columns bytes result (inr (records, are, due)) fault = tuples_reads name
    (table_of columns records) (subst IsReadFault due fault)

-- the same two, where the shelf tells its documents
pub table_read : (texts : Option (List (List ℕ × List ℕ))) (name : List ℕ) (columns : List Column) (bytes : List ℕ)
    (result : Result (List (List Value)) BindFault)
    → IfSome texts (λ told. Reads told name (Ok bytes)) → ReadsTuples name columns bytes result
    → IsDetermined result → IfSome texts (λ told. AreTuples told name columns result)
table_read None name columns bytes result reads tuples determined = tt
table_read (Some told) name columns bytes result reads tuples determined = read_whole told name columns bytes result
    reads tuples determined

pub table_not_read : (texts : Option (List (List ℕ × List ℕ))) (name : List ℕ) (columns : List Column)
    (fault : BindFault) (result : Result (List (List Value)) BindFault)
    → IfSome texts (λ told. Reads told name (Err fault)) → result ≡ Err fault
    → IsDetermined result → IfSome texts (λ told. AreTuples told name columns result)
table_not_read None name columns fault result reads e determined = tt
table_not_read (Some told) name columns fault result reads e determined =
    rw e (read_long told name columns fault reads (subst (IsDetermined {A = List (List Value)}) e determined))

-- reading records tells of no table that could not be read
pub no_table_fault : (name : List ℕ) (columns : List Column) (bytes : List ℕ) (result : Result (List (List Value)) BindFault)
    → ReadsTuples name columns bytes result → (table : List ℕ) → IsReadFaultOf result table → ⊥
no_table_fault name columns bytes result reads table h = no_read_fault name columns bytes result reads
    (read_fault_of result table h)
