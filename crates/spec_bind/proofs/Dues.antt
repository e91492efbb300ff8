-- Answers that are due.
use Rattle.std.proofs.Common.{◌≡◌, Result, Ok, Err}
use Rattle.bind_faults.specs.Faults.{IsDetermined, IsDue}
use Rattle.bind_faults.specs.declared.fault.BindFault.{BindFault}
use Rattle.bind_faults.specs.declared.fault.BindFault.TheVariants.{Refused, CopyDiffers, Limit, ReadFault, NoMemory}

-- an answer that is due and determined is what is due
pub due_determined : {A : Type 0} (due r : Result A BindFault) → IsDue due r → IsDetermined r → due ≡ r
due_determined due (Ok x) is determined = is
due_determined due (Err (Refused refusal)) is determined = is
due_determined due (Err (CopyDiffers document line target source)) is determined = is
due_determined due (Err (Limit k)) is determined = is
due_determined due (Err (ReadFault name)) is determined = absurd determined
due_determined due (Err NoMemory) is determined = absurd determined
