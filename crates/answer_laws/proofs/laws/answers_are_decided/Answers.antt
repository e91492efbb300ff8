use Rattle.answer_laws.proofs.Answering.{answers_decided}
use Rattle.answer_laws.proofs.laws.answers_are_decided.Goals as goal

pub returns : goal.returns
returns c = answers_decided
