-- How commands end whose job was done.
use Rattle.std.specs.Prelude.{ℕ, Bool, true, false, List}
use Rattle.command_stages.specs.declared.done.Done.{Done}
use Rattle.command_stages.specs.declared.done.Ending.{Ending}
use Rattle.command_stages.specs.declared.done.Ending.TheVariants.{Printed, Decided, Denied, Undecided, Tabled, Inconsistent, Open}

-- the status, the text being written
abbrev pub ending_status : Ending → ℕ
ending_status Printed = 0
ending_status Decided = 0
ending_status Denied = 1
ending_status Undecided = 3
ending_status Tabled = 0
ending_status Inconsistent = 10
ending_status Open = 3

-- a question ends so that is decided, or not
abbrev pub ending_of : Bool → Ending
ending_of true = Decided
ending_of false = Undecided

-- a question ends so, where the status tells no answer of no
abbrev pub IsOfQuestion : Ending → Type 0
IsOfQuestion Printed = ⊥
IsOfQuestion Decided = Unit {0}
IsOfQuestion Denied = ⊥
IsOfQuestion Undecided = Unit {0}
IsOfQuestion Tabled = ⊥
IsOfQuestion Inconsistent = ⊥
IsOfQuestion Open = ⊥

-- a question whose answer is no ends so, where the status tells that
abbrev pub IsOfDenial : Ending → Type 0
IsOfDenial Printed = ⊥
IsOfDenial Decided = ⊥
IsOfDenial Denied = Unit {0}
IsOfDenial Undecided = Unit {0}
IsOfDenial Tabled = ⊥
IsOfDenial Inconsistent = ⊥
IsOfDenial Open = ⊥

-- a command that gives a table ends so
abbrev pub IsOfTable : Ending → Type 0
IsOfTable Printed = ⊥
IsOfTable Decided = ⊥
IsOfTable Denied = ⊥
IsOfTable Undecided = ⊥
IsOfTable Tabled = Unit {0}
IsOfTable Inconsistent = Unit {0}
IsOfTable Open = Unit {0}

-- a command that looks for answers of a query ends so, where there is a consistent completion or none is known
abbrev pub IsOfAnswers : Ending → Type 0
IsOfAnswers Printed = ⊥
IsOfAnswers Decided = Unit {0}
IsOfAnswers Denied = ⊥
IsOfAnswers Undecided = Unit {0}
IsOfAnswers Tabled = Unit {0}
IsOfAnswers Inconsistent = ⊥
IsOfAnswers Open = Unit {0}

-- a text that there is just to tell
abbrev pub printed_text : List ℕ → Done
printed_text text = record { text = text; ending = Printed }
