use Rattle.text_tokens.proofs.Unique.{one_list}
use Rattle.text_tokens.proofs.laws.one_list_of_tokens.Goals as goal

pub returns : goal.returns
returns c = one_list
