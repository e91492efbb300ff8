-- Refusals, and outcomes of steps that may be refused.
use Rattle.std.specs.Prelude.{◌≡◌, ℕ, List, [], ◌∷◌, Option, Some, None, Result, Ok, Err}
use Rattle.currency_base.specs.declared.error_code.ErrorCode.{ErrorCode}
use Rattle.text_grammar.specs.declared.named.Named.{Named}
use Rattle.bind_faults.specs.declared.fault.BindFault.{BindFault}
use Rattle.bind_faults.specs.declared.fault.BindFault.TheVariants.{Refused, CopyDiffers, Limit, ReadFault, NoMemory}

-- the refusal of a name in the tree's own text, at its line
abbrev pub refused_at : ErrorCode → Named → BindFault
refused_at code named = Refused record { code = code; document = None; line = named.line }

-- the refusal of a name, at its line in the document of that name, or in the tree's own text where none is named
abbrev pub refused_of : Option (List ℕ) → ErrorCode → Named → BindFault
refused_of document code named = Refused record { code = code; document = document; line = named.line }

-- the refusal of a record of a table
abbrev pub refused_in : List ℕ → ErrorCode → ℕ → BindFault
refused_in table code line = Refused record { code = code; document = Some table; line = line }

-- what comes of a name that is found, and else its refusal
abbrev pub found_or : {A : Type 0} → Option ℕ → BindFault → (ℕ → Result A BindFault) → Result A BindFault
found_or None fault next = Err fault
found_or (Some place) fault next = next place

-- what comes after an outcome that is no refusal
abbrev pub and_then : {A B : Type 0} → Result A BindFault → (A → Result B BindFault) → Result B BindFault
and_then (Ok a) next = next a
and_then (Err fault) next = Err fault

-- what comes where nothing is refused
abbrev pub unless : {A : Type 0} → Option BindFault → Result A BindFault → Result A BindFault
unless None next = next
unless (Some fault) next = Err fault

-- the first refusal of two checks
abbrev pub or_else : Option BindFault → Option BindFault → Option BindFault
or_else None later = later
or_else (Some fault) later = Some fault

-- what each of these gives, where none is refused; otherwise the first refusal
abbrev pub all_of : {A B : Type 0} → (A → Result B BindFault) → List A → Result (List B) BindFault
all_of f [] = Ok []
all_of f (x ∷ xs) = and_then (f x) (λ y. and_then (all_of f xs) (λ ys. Ok (y ∷ ys)))

-- the first refusal of these
abbrev pub first_of : {A : Type 0} → (A → Option BindFault) → List A → Option BindFault
first_of fault [] = None
first_of fault (x ∷ xs) = or_else (fault x) (first_of fault xs)

-- the answer is the one that is due, or memory ran out
abbrev pub IsDue : {A : Type 0} → Result A BindFault → Result A BindFault → Type 0
IsDue due (Err NoMemory) = Unit {0}
IsDue due (Ok x) = due ≡ Ok x
IsDue due (Err fault) = due ≡ Err fault

-- the outcome is one that the documents determine: no fault of the outside, and no want of memory
abbrev pub IsDetermined : {A : Type 0} → Result A BindFault → Type 0
IsDetermined (Ok made) = Unit {0}
IsDetermined (Err (Refused refusal)) = Unit {0}
IsDetermined (Err (CopyDiffers document line target source)) = Unit {0}
IsDetermined (Err (Limit k)) = Unit {0}
IsDetermined (Err (ReadFault name)) = ⊥
IsDetermined (Err NoMemory) = ⊥

-- a table could not be read: the one of this name
abbrev pub IsReadFaultOf : {A : Type 0} → Result A BindFault → List ℕ → Type 0
IsReadFaultOf (Err (ReadFault name)) table = name ≡ table
IsReadFaultOf other table = ⊥

-- a table could not be read
abbrev pub IsReadFault : {A : Type 0} → Result A BindFault → Type 0
IsReadFault (Err (ReadFault name)) = Unit {0}
IsReadFault other = ⊥
