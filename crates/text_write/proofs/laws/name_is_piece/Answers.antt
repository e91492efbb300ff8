use Rattle.text_write.proofs.Readings.{name_is_whole}
use Rattle.text_write.proofs.laws.name_is_piece.Goals as goal

pub returns : goal.returns
returns c = name_is_whole
