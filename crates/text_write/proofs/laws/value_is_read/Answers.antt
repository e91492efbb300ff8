use Rattle.text_write.proofs.Readings.{value_read}
use Rattle.text_write.proofs.laws.value_is_read.Goals as goal

pub returns : goal.returns
returns c = value_read
