-- What holds of an outcome whatever else would have been made, and answers that are due.
use Rattle.std.proofs.Common.{◌≡◌, ℕ, List, [], ◌∷◌, Result, Ok, Err}
use Rattle.bind_faults.specs.Faults.{all_of, and_then, IsDue, IsDetermined, IsReadFault, IsReadFaultOf}
use Rattle.bind_faults.specs.declared.fault.BindFault.{BindFault}
use Rattle.bind_faults.specs.declared.fault.BindFault.TheVariants.{Refused, CopyDiffers, Limit, ReadFault, NoMemory}

-- a fault is determined, or a read fault, or one of some table, whatever else would have been the answer
pub determined_fault : (A B : Type 0) (fault : BindFault) → IsDetermined {A = A} (Err fault) → IsDetermined {A = B} (Err fault)
determined_fault A B (Refused refusal) h = h
determined_fault A B (CopyDiffers document line target source) h = h
determined_fault A B (Limit k) h = h
determined_fault A B (ReadFault name) h = h
determined_fault A B NoMemory h = h

pub same_read_fault : (A B : Type 0) (fault : BindFault) → IsReadFault {A = A} (Err fault) → IsReadFault {A = B} (Err fault)
same_read_fault A B (Refused refusal) h = h
same_read_fault A B (CopyDiffers document line target source) h = h
same_read_fault A B (Limit k) h = h
same_read_fault A B (ReadFault name) h = h
same_read_fault A B NoMemory h = h

pub same_read_fault_of : (A B : Type 0) (fault : BindFault) (table : List ℕ) → IsReadFaultOf {A = A} (Err fault)
    table → IsReadFaultOf {A = B} (Err fault) table
same_read_fault_of A B (Refused refusal) table h = h
same_read_fault_of A B (CopyDiffers document line target source) table h = h
same_read_fault_of A B (Limit k) table h = h
same_read_fault_of A B (ReadFault name) table h = h
same_read_fault_of A B NoMemory table h = h

-- a table of some name that could not be read is one
pub read_fault_of : {A : Type 0} (result : Result A BindFault) (table : List ℕ) → IsReadFaultOf result table → IsReadFault result
read_fault_of (Ok made) table h = h
read_fault_of (Err (Refused refusal)) table h = h
read_fault_of (Err (CopyDiffers document line target source)) table h = h
read_fault_of (Err (Limit k)) table h = h
read_fault_of (Err (ReadFault name)) table h = tt
read_fault_of (Err NoMemory) table h = h

-- an answer that is the one that is due
pub due_same : {A : Type 0} (due r : Result A BindFault) → due ≡ r → IsDue due r
due_same due (Ok x) is = is
due_same due (Err (Refused refusal)) is = is
due_same due (Err (CopyDiffers document line target source)) is = is
due_same due (Err (Limit k)) is = is
due_same due (Err (ReadFault name)) is = is
due_same due (Err NoMemory) is = tt

-- a fault that is due in one place is due where it is handed on
pub due_through : {A B : Type 0} (first : Result A BindFault) (due : Result B BindFault) (e : BindFault) → IsDue first (Err e)
    → (first ≡ Err e → due ≡ Err e) → IsDue due (Err e)
due_through first due (Refused refusal) is on = on is
due_through first due (CopyDiffers document line target source) is on = on is
due_through first due (Limit k) is on = on is
due_through first due (ReadFault name) is on = on is
due_through first due NoMemory is on = tt

-- ---- outcomes that are no read fault

-- a fault that is due is no read fault, where nothing that is due is one
pub due_reads : {A : Type 0} (B : Type 0) (due : Result A BindFault) (fault : BindFault) → (IsReadFault due → ⊥)
    → IsDue due (Err fault)
    → IsReadFault {A = B} (Err fault) → ⊥
due_reads B due (Refused refusal) reads is h = h
due_reads B due (CopyDiffers document line target source) reads is h = h
due_reads B due (Limit k) reads is h = h
due_reads B due (ReadFault name) reads is h = reads (rw is h)
due_reads B due NoMemory reads is h = h

-- what comes after an outcome
pub then_reads : {A B : Type 0} (r : Result A BindFault) (next : A → Result B BindFault) → (IsReadFault r → ⊥)
    → ((x : A) → IsReadFault (next x) → ⊥) → IsReadFault (and_then r next) → ⊥
then_reads (Ok x) next first later h = later x h
then_reads {A} {B} (Err fault) next first later h = first (same_read_fault B A fault h)

-- what each gives
pub all_reads : {A B : Type 0} (f : A → Result B BindFault) → ((x : A) → IsReadFault (f x) → ⊥) → (xs : List A)
    → IsReadFault (all_of f xs) → ⊥
all_reads f each [] h = h
all_reads f each (x ∷ xs) h =
    then_reads (f x) (λ y. and_then (all_of f xs) (λ ys. Ok (y ∷ ys))) (each x)
    (λ y. then_reads (all_of f xs) (λ ys. Ok (y ∷ ys)) (all_reads f each xs) (λ ys none. none)) h
