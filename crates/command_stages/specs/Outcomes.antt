-- What an outcome writes, and its status.
use Rattle.std.specs.Prelude.{ℕ, List, Result, Ok, Err}
use Rattle.command_stages.specs.Endings.{ending_status}
use Rattle.command_stages.specs.Texts.{trouble_text, trouble_status}
use Rattle.command_stages.specs.declared.done.Done.{Done}
use Rattle.command_stages.specs.declared.trouble.Trouble.{Trouble}

-- what an outcome writes
abbrev pub output_of : Result Done Trouble → List ℕ
output_of (Ok d) = d.text
output_of (Err e) = trouble_text e

-- the status of an outcome whose text was written
abbrev pub status_of : Result Done Trouble → ℕ
status_of (Ok d) = ending_status d.ending
status_of (Err e) = trouble_status e
