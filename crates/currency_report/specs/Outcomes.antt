-- What one part of a report says, or its refusal.
use Rattle.std.specs.Prelude.{◌≡◌, Result, Ok, Err}
use Rattle.currency_report.specs.declared.report.ReportFault.{ReportFault}
use Rattle.currency_report.specs.declared.report.ReportFault.TheVariants.{Refused, NoMemory}

-- what comes after an outcome that is no refusal
abbrev pub and_then : {A B : Type 0} → Result A ReportFault → (A → Result B ReportFault) → Result B ReportFault
and_then (Ok a) next = next a
and_then (Err fault) next = Err fault

-- the outcome is the one that is due, or memory ran out
abbrev pub IsDue : {A : Type 0} → Result A ReportFault → Result A ReportFault → Type 0
IsDue due (Ok a) = due ≡ Ok a
IsDue due (Err (Refused code line)) = due ≡ Err (Refused code line)
IsDue due (Err NoMemory) = Unit {0}

-- a step that leaves something new has the outcome that is due, or memory ran out
abbrev pub Steps : {A : Type 0} → A → Result A ReportFault → Result (Unit {0}) ReportFault → Type 0
Steps new due (Ok done) = due ≡ Ok new
Steps new due (Err (Refused code line)) = due ≡ Err (Refused code line)
Steps new due (Err NoMemory) = Unit {0}
