-- Steps that read no table make no read fault.
use Rattle.std.proofs.Common.{◌≡◌, ℕ, List, [], ◌∷◌, Option, Some, None, Result, Ok, Err}
use Rattle.std.specs.Prelude.{if◌then◌else◌, Bool, true, false}
use Rattle.bind_faults.specs.Faults.{IsDue, IsReadFault, IsReadFaultOf, all_of, and_then, found_or, unless}
use Rattle.bind_faults.specs.declared.fault.BindFault.{BindFault}
use Rattle.bind_faults.specs.declared.fault.BindFault.TheVariants.{Refused, CopyDiffers, Limit, ReadFault, NoMemory}

-- an outcome that is no read fault
pub record ReadsNothing {A : Type 0} (r : Result A BindFault) : Type 0 where
  pub none : IsReadFault r → ⊥

-- a read fault is one whatever else would have been the answer
pub same_fault : (A B : Type 0) (fault : BindFault) → IsReadFault {A = A} (Err fault) → IsReadFault {A = B} (Err fault)
same_fault A B (Refused refusal) h = h
same_fault A B (CopyDiffers document line target source) h = h
same_fault A B (Limit k) h = h
same_fault A B (ReadFault name) h = h
same_fault A B NoMemory h = h

-- so is one of a table of this name
pub same_table : (A B : Type 0) (fault : BindFault) (table : List ℕ) → IsReadFaultOf {A = A} (Err fault) table
    → IsReadFaultOf {A = B} (Err fault) table
same_table A B (Refused refusal) table h = h
same_table A B (CopyDiffers document line target source) table h = h
same_table A B (Limit k) table h = h
same_table A B (ReadFault name) table h = h
same_table A B NoMemory table h = h

-- a read fault of a table of some name is one
pub read_fault_of : {A : Type 0} (result : Result A BindFault) (table : List ℕ) → IsReadFaultOf result table → IsReadFault result
read_fault_of (Ok made) table h = h
read_fault_of (Err (Refused refusal)) table h = h
read_fault_of (Err (CopyDiffers document line target source)) table h = h
read_fault_of (Err (Limit k)) table h = h
read_fault_of (Err (ReadFault name)) table h = tt
read_fault_of (Err NoMemory) table h = h

pub then_reads : {A B : Type 0} (first : Result A BindFault) (next : A → Result B BindFault) → ReadsNothing first
    → ((x : A) → ReadsNothing (next x)) → ReadsNothing (and_then first next)
then_reads (Ok x) next a b = b x
then_reads {A} {B} (Err fault) next a b = record { none = λ h. a.none (same_fault B A fault h) }

pub found_reads : {A : Type 0} (place : Option ℕ) (fault : BindFault) (next : ℕ → Result A BindFault)
    → ReadsNothing {A = A} (Err fault)
    → ((k : ℕ) → ReadsNothing (next k)) → ReadsNothing (found_or place fault next)
found_reads None fault next a b = a
found_reads (Some k) fault next a b = b k

pub unless_reads : {A : Type 0} (refused : Option BindFault) (next : Result A BindFault)
    → ((fault : BindFault) → refused ≡ Some fault → ReadsNothing {A = A} (Err fault)) → ReadsNothing next
    → ReadsNothing (unless refused next)
unless_reads None next a b = b
unless_reads (Some fault) next a b = a fault (λ i. Some fault)

pub all_reads : {A B : Type 0} (f : A → Result B BindFault) → ((x : A) → ReadsNothing (f x)) → (xs : List A)
    → ReadsNothing (all_of f xs)
all_reads f each [] = record { none = λ h. h }
all_reads f each (x ∷ xs) =
    then_reads (f x) (λ y. and_then (all_of f xs) (λ ys. Ok (y ∷ ys))) (each x)
    (λ y. then_reads (all_of f xs) (λ ys. Ok (y ∷ ys)) (all_reads f each xs) (λ ys. record { none = λ h. h }))

pub if_reads : {A : Type 0} (b : Bool) (x y : Result A BindFault) → ReadsNothing x → ReadsNothing y → ReadsNothing
    (if b then x else y)
if_reads true x y a c = a
if_reads false x y a c = c

-- an answer that is due is no read fault, where that is none
pub due_reads : {A : Type 0} (due r : Result A BindFault) → ReadsNothing due → IsDue due r → IsReadFault r → ⊥
due_reads due (Ok made) none is h = h
due_reads due (Err (Refused refusal)) none is h = h
due_reads due (Err (CopyDiffers document line target source)) none is h = h
due_reads due (Err (Limit k)) none is h = h
due_reads due (Err (ReadFault name)) none is h = none.none (rw is h)
due_reads due (Err NoMemory) none is h = h
