use Rattle.program_words.proofs.Causes.{caused, refused}
use Rattle.program_words.proofs.laws.refusals_have_causes.Goals as goal

pub returns : goal.returns
returns c = record { caused = caused; refused = refused }
