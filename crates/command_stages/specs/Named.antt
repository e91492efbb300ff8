-- What the code's own types say.
use Rattle.std.specs.Prelude.{◌≡◌, ℕ, List, Result, Ok, Err}
use Rattle.command_stages.specs.declared.trouble.Trouble.{Trouble}
use Rattle.command_stages.specs.declared.trouble.Trouble.TheVariants.{Words, Unshown, Refused, CopyDiffers, Limit, ReadFault, NoMemory}

-- a trouble that the words and the documents determine: no fault of the outside, and no want of memory
abbrev pub IsDeterminedTrouble : Trouble → Type 0
IsDeterminedTrouble Words = Unit {0}
IsDeterminedTrouble (Unshown check document line) = Unit {0}
IsDeterminedTrouble (Refused code document line) = Unit {0}
IsDeterminedTrouble (CopyDiffers document line target source) = Unit {0}
IsDeterminedTrouble (Limit k) = Unit {0}
IsDeterminedTrouble (ReadFault document) = ⊥
IsDeterminedTrouble NoMemory = ⊥

-- an outcome that the words and the documents determine
abbrev pub IsDetermined : {A : Type 0} → Result A Trouble → Type 0
IsDetermined (Ok a) = Unit {0}
IsDetermined (Err e) = IsDeterminedTrouble e

-- the trouble is that the document of this name could not be read
abbrev pub IsUnread : Trouble → List ℕ → Type 0
IsUnread (ReadFault document) name = document ≡ name
IsUnread other name = ⊥

-- the outcome is that the document of this name could not be read
abbrev pub IsReadFaultOf : {A : Type 0} → Result A Trouble → List ℕ → Type 0
IsReadFaultOf (Err e) name = IsUnread e name
IsReadFaultOf other name = ⊥

-- a document could not be read
abbrev pub IsReadFault : {A : Type 0} → Result A Trouble → Type 0
IsReadFault (Err (ReadFault name)) = Unit {0}
IsReadFault other = ⊥
