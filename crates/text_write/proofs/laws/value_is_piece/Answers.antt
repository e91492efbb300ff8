use Rattle.text_write.proofs.Readings.{value_is_whole}
use Rattle.text_write.proofs.laws.value_is_piece.Goals as goal

pub returns : goal.returns
returns c = value_is_whole
