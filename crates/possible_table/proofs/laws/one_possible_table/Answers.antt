use Rattle.possible_table.proofs.Replies.{possible_table_like}
use Rattle.possible_table.proofs.laws.one_possible_table.Goals as goal

pub returns : goal.returns
returns c = λ told a. possible_table_like c.one_read.ensures.trees c.one_read.ensures.specs c.one_read.ensures.questions told a
