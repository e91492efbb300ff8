use Rattle.currency_report.proofs.Rankings.{ends_rankings}
use Rattle.currency_report.proofs.rank.rank_all.Goals as goal

pub returns-in-Err-clause-steps : goal.returns-in-Err-clause-steps
returns-in-Err-clause-steps c =
    ends_rankings c.args.spec.now.relations c.args.rankings.now c.loop-ranking.ranking-index c.ranking-item.result
    c.args.completion.now c.loop-ranking.completion
    c.rank.new.completion c.in-Err.fault c.loop-ranking-test.true c.ranking-item.is c.loop-ranking.invariant.due
    c.in-Err.ensures.steps
