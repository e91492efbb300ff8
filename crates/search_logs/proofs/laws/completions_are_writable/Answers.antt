use Rattle.search_logs.proofs.Completions.{writable_completion}
use Rattle.search_logs.proofs.laws.completions_are_writable.Goals as goal

pub returns : goal.returns
returns c = writable_completion
