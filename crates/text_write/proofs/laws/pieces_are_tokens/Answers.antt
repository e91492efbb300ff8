use Rattle.text_write.proofs.Tokens.{pieces_found}
use Rattle.text_write.proofs.laws.pieces_are_tokens.Goals as goal

pub returns : goal.returns
returns c = pieces_found
