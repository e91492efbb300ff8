use Rattle.currency_cli.proofs.OneText.{one_text}
use Rattle.currency_cli.proofs.laws.one_text.Goals as goal

pub returns : goal.returns
returns c = one_text c.one_verdict.ensures c.one_listing.ensures
