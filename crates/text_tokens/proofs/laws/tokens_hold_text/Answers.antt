use Rattle.text_tokens.proofs.Texts.{tokens_hold}
use Rattle.text_tokens.proofs.laws.tokens_hold_text.Goals as goal

pub returns : goal.returns
returns c = tokens_hold
