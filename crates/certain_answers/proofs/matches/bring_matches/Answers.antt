use Rattle.certain_answers.proofs.Wanting.{match_of}
use Rattle.certain_answers.proofs.matches.bring_matches.Goals as goal

pub bring-requires : goal.bring-requires
bring-requires g c =
    match_of c.args.spec.now c.args.query.now c.args.search.now c.loop-place.search c.args.completion.now
    c.args.matches.now c.loop-place.place _
    c.loop-place.invariant.0 c.requires.search c.requires.completion c.requires.matches c.get.ensures
