-- Attributes that are found one by one.
use Rattle.std.proofs.Common.{◌++◌, List, Result, Ok, Err}
use Rattle.bind_faults.specs.declared.fault.BindFault.{BindFault}

-- items in front of others, where those are not refused
abbrev pub with_front : {A : Type 0} → List A → Result (List A) BindFault → Result (List A) BindFault
with_front front (Ok items) = Ok (front ++ items)
with_front front (Err fault) = Err fault
