-- Outcomes that differ in no more than what answers a question, or what a table tells.
use Rattle.std.specs.Prelude.{◌≡◌, ◌⊎◌, Result, Ok, Err}
use Rattle.command_stages.specs.Endings.{IsOfAnswers, IsOfDenial, IsOfQuestion, IsOfTable}
use Rattle.command_stages.specs.declared.done.Done.{Done}
use Rattle.command_stages.specs.declared.done.Ending.{Ending}
use Rattle.command_stages.specs.declared.done.Ending.TheVariants.{Printed, Decided, Denied, Undecided, Tabled, Inconsistent, Open}
use Rattle.command_stages.specs.declared.trouble.Trouble.{Trouble}
use Rattle.command_stages.specs.declared.trouble.Trouble.TheVariants.{Limit}

-- both end as a text that there is just to tell, or both as a question, or both as a table; a question whose answer is no, and whose
-- status tells that, does not end as one that is decided in another way
abbrev pub EndAlike : Ending → Ending → Type 0
EndAlike Printed other = other ≡ Printed
EndAlike Decided other = IsOfQuestion other
EndAlike Denied other = IsOfDenial other
EndAlike Undecided other = IsOfQuestion other ⊎ IsOfDenial other
EndAlike Tabled other = IsOfTable other
EndAlike Inconsistent other = IsOfTable other
EndAlike Open other = IsOfTable other

-- texts that there are just to tell, or answers to a question, or tables, or one trouble; or an answer or a table, and that a query
-- has more answers over a completion than are gone through
abbrev pub AreAlike : Result Done Trouble → Result Done Trouble → Type 0
AreAlike (Ok d) (Ok e) = EndAlike d.ending e.ending
AreAlike (Ok d) (Err e) = IsOfAnswers d.ending × (e ≡ Limit 3)
AreAlike (Err e) (Ok d) = IsOfAnswers d.ending × (e ≡ Limit 3)
AreAlike (Err e) (Err f) = e ≡ f
