use Rattle.text_write.proofs.Readings.{name_read}
use Rattle.text_write.proofs.laws.name_is_read.Goals as goal

pub returns : goal.returns
returns c = name_read
