use Rattle.certain_answers.proofs.Wanting.{match_over_at}
use Rattle.certain_answers.proofs.violated.bring_at.Goals as goal

pub bring-requires : goal.bring-requires
bring-requires g c =
    match_over_at c.args.spec.now c.args.query.now c.args.search.now c.args.completion.now c.args.indexed.now
    c.args.place c.get.result.now _
    c.in-Ok-Some.found c.requires.search c.requires.completion c.requires.over c.is_search.ensures _ c.log.ensures
    c.get.ensures c.in-Ok-Some.field-0-is
    c.in-Ok-Some.ensures.some
