use Rattle.currency_session.proofs.broken.put_row.Goals as goal

pub returns-in-Some : goal.returns-in-Some
returns-in-Some c = c.put.ensures c.args.ties.now.count c.in-Some.ensures c.requires.below
