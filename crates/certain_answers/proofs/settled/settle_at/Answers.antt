use Rattle.certain_answers.proofs.Wanting.{matches_over_at}
use Rattle.certain_answers.proofs.settled.settle_at.Goals as goal

pub bring_first-requires : goal.bring_first-requires
bring_first-requires g c =
    matches_over_at c.args.spec.now c.args.query.now c.args.search.now c.args.completion.now c.args.indexed.now
    c.args.place c.get.result.now c.in-Ok.found c.requires.search c.requires.completion c.requires.over
    c.is_search.ensures _ c.log.ensures c.get.ensures c.in-Ok.ensures.each
