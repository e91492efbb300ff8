use Rattle.answer_laws.proofs.AnsweredIn.{answers_in_decided}
use Rattle.answer_laws.proofs.laws.answers_in_are_decided.Goals as goal

pub returns : goal.returns
returns c = answers_in_decided
