use Rattle.currency_ask.proofs.Listings.{failing_reported}
use Rattle.currency_ask.proofs.pairs.fails_at.Goals as goal

pub returns-in-Ok : goal.returns-in-Ok
returns-in-Ok c =
    failing_reported c.completions_are_writable.ensures c.args.spec.now c.requires.within c.args.pairs.now
    c.requires.asked c.args.place c.get-pair.result.now
    c.get-pair.ensures c.requires.others c.args.completion c.requires.consistent c.requires.fails.fails
    c.in-Ok.completions c.in-Ok.ensures c.listed.result c.listed.ensures
