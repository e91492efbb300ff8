-- What a declaration makes, where the shelf tells its documents.
use Rattle.std.proofs.Common.{◌≡◌, ℕ, List, Option, Some, None, Result, Ok, Err, IfSome, inl, inr, sym, subst, refl}
use Rattle.table_rows.specs.declared.rows.TableRows.{TableRows}
use Rattle.spec_model.specs.declared.relation.Relation.{Relation}
use Rattle.bind_faults.specs.Faults.{and_then, IsDetermined, IsReadFaultOf}
use Rattle.bind_faults.proofs.Outcomes.{determined_fault, read_fault_of, same_read_fault_of}
use Rattle.bind_faults.specs.declared.fault.BindFault.{BindFault}
use Rattle.relation_bind.specs.Declarations.{Declared}
use Rattle.relation_bind.specs.Relations.{IsTable, IsDeclared, IsTableOf, relation_of}
use Rattle.relation_bind.specs.Steps.{ChecksHead}
use Rattle.relation_bind.proofs.Heads.{head_reads}

-- a declaration that takes a name that is taken
refused_head : (told : List (List ℕ × List ℕ)) (taken : List (List ℕ)) (d : Declared) (fault : BindFault)
    → ChecksHead taken d (Err fault) → IsDetermined {A = Relation} (Err fault) → IsDeclared told taken d (Err fault)
refused_head told taken d fault (inl memory) determined =
    absurd (subst (λ (f : BindFault). IsDetermined {A = Relation} (Err f)) memory determined)
refused_head told taken d fault (inr head) determined = rw head

-- a declaration whose table is read
read_table : (told : List (List ℕ × List ℕ)) (taken : List (List ℕ)) (d : Declared) (names : List (List ℕ))
    (table : Result TableRows BindFault)
    → ChecksHead taken d (Ok names) → IsTable told d table → IsDeclared told taken d (and_then table (λ t. Ok (relation_of d t)))
read_table told taken d names table head reads = rw head.0 (table, reads, refl)

pub head_refused : (texts : Option (List (List ℕ × List ℕ))) (taken : List (List ℕ)) (d : Declared)
    (fault : BindFault) (result : Result Relation BindFault)
    → ChecksHead taken d (Err fault) → result ≡ Err fault → IsDetermined result → IfSome texts
    (λ told. IsDeclared told taken d result)
head_refused None taken d fault result head is determined = tt
head_refused (Some told) taken d fault result head is determined =
    subst (λ (r : Result Relation BindFault). IsDeclared told taken d r) (sym is)
    (refused_head told taken d fault head (subst IsDetermined is determined))

pub table_refused : (texts : Option (List (List ℕ × List ℕ))) (taken : List (List ℕ)) (d : Declared)
    (names : List (List ℕ)) (fault : BindFault) (result : Result Relation BindFault)
    → ChecksHead taken d (Ok names)
    → (IsDetermined {A = TableRows} (Err fault) → IfSome texts (λ told. IsTable told d (Err fault)))
    → result ≡ Err fault → IsDetermined result → IfSome texts (λ told. IsDeclared told taken d result)
table_refused None taken d names fault result head reads is determined = tt
table_refused (Some told) taken d names fault result head reads is determined =
    subst (λ (r : Result Relation BindFault). IsDeclared told taken d r) (sym is)
    (read_table told taken d names (Err fault) head (reads (determined_fault Relation TableRows fault (subst IsDetermined is determined))))

pub relation_read : (texts : Option (List (List ℕ × List ℕ))) (taken : List (List ℕ)) (d : Declared)
    (names : List (List ℕ)) (table : TableRows) (made : Relation)
    → ChecksHead taken d (Ok names) → IfSome texts (λ told. IsTable told d (Ok table)) → made ≡ relation_of d table
    → IfSome texts (λ told. IsDeclared told taken d (Ok made))
relation_read None taken d names table made head reads is = tt
relation_read (Some told) taken d names table made head reads is =
    subst (λ (r : Relation). IsDeclared told taken d (Ok r)) (sym is) (read_table told taken d names (Ok table) head reads)

-- the table that could not be read is that of the declaration
pub table_not_given : (taken : List (List ℕ)) (d : Declared) (names : List (List ℕ)) (fault : BindFault)
    (result : Result Relation BindFault)
    → ChecksHead taken d (Ok names) → ((table : List ℕ) → IsReadFaultOf {A = TableRows} (Err fault) table
    → d.document.name ≡ table)
    → result ≡ Err fault → (table : List ℕ) → IsReadFaultOf result table → IsTableOf taken d table
table_not_given taken d names fault result head named is table h = (
  head.0,
  named table (same_read_fault_of Relation TableRows fault table
      (subst (λ (r : Result Relation BindFault). IsReadFaultOf r table) is h)),
)

-- where a name is refused, no table is read
pub head_not_read : (taken : List (List ℕ)) (d : Declared) (fault : BindFault) (result : Result Relation BindFault)
    → ChecksHead taken d (Err fault) → result ≡ Err fault → (table : List ℕ) → IsReadFaultOf result table → ⊥
head_not_read taken d fault result head is table h =
    head_reads taken d fault head (read_fault_of {A = Relation} (Err fault) table
    (subst (λ (r : Result Relation BindFault). IsReadFaultOf r table) is h))
