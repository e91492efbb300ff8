use Rattle.log_write.proofs.Logs.{read_again}
use Rattle.log_write.proofs.laws.written_is_read.Goals as goal

pub returns : goal.returns
returns c = read_again c.laws_of_literals.ensures.parts
