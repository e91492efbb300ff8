use Rattle.answer_candidates.proofs.Remaining.{left_common}
use Rattle.answer_candidates.proofs.left.left_are_common.Goals as goal

pub returns : goal.returns
returns c = left_common
