use Rattle.text_write.proofs.Readings.{string_read}
use Rattle.text_write.proofs.laws.string_is_read.Goals as goal

pub returns : goal.returns
returns c = string_read
