use Rattle.record_text.proofs.ReadBack.{read_again}
use Rattle.record_text.proofs.laws.records_read_back.Goals as goal

pub returns : goal.returns
returns c = read_again
