use Rattle.std.proofs.Common.{length, unwrap_or}
use Rattle.currency_ask.proofs.Earlier.{before_failed}
use Rattle.currency_ask.proofs.GoalFacts.{failed_pair}
use Rattle.currency_ask.proofs.pairs.reported.Goals as goal

pub fails_at-requires-clause-fails : goal.fails_at-requires-clause-fails
fails_at-requires-clause-fails c =
    failed_pair c.args.search c.args.pairs.now (unwrap_or c.args.failing (length c.args.pairs.now)) c.in-Fails.place
    c.requires.outcome.left c.args.goals.now
    c.in-Fails.completion c.args.decided c.in-Fails.is c.requires.goals c.requires.outcome.comes_to

pub fails_at-requires-clause-others : goal.fails_at-requires-clause-others
fails_at-requires-clause-others c =
    before_failed c.args.search c.args.spec.now c.args.pairs.now (unwrap_or c.args.failing (length c.args.pairs.now))
    c.in-Fails.place c.requires.outcome.left
    c.args.goals.now c.in-Fails.completion c.args.decided c.proved_pairs_hold.ensures c.requires.spec
    c.requires.asked c.requires.goals c.in-Fails.is
    c.requires.outcome.comes_to
