use Rattle.unit_questions.proofs.ClaimsLaw.{claims_asked}
use Rattle.unit_questions.proofs.laws.claims_are_asked.Goals as goal

pub returns : goal.returns
returns c = claims_asked
