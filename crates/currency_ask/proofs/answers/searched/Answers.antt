use Rattle.currency_ask.proofs.answers.searched.Goals as goal

pub returns-then-len-eq0 : goal.returns-then-len-eq0
returns-then-len-eq0 g c =
    c.unanswered.ensures c.args.spec.now c.args.query.now c.args.budget c.requires.within c.requires.candidates
