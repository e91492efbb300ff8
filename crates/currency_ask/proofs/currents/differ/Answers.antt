use Rattle.currency_ask.proofs.Listings.{differing_reported}
use Rattle.currency_ask.proofs.currents.differ.Goals as goal

pub returns-in-Ok : goal.returns-in-Ok
returns-in-Ok c =
    differing_reported c.completions_are_writable.ensures c.args.spec.now c.requires.within c.args.rels.now
    c.args.place c.args.first c.args.second c.requires.first
    c.requires.second c.requires.differ c.in-Ok.completions c.in-Ok.ensures c.listed.result c.listed.ensures
