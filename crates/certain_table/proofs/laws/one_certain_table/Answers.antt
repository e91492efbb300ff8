use Rattle.certain_table.proofs.Replies.{certain_like}
use Rattle.certain_table.proofs.laws.one_certain_table.Goals as goal

pub returns : goal.returns
returns c = λ told a. certain_like c.one_read.ensures.trees c.one_read.ensures.specs c.one_read.ensures.questions told a
