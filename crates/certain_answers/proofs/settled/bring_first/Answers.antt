use Rattle.certain_answers.proofs.Wanting.{other_at}
use Rattle.certain_answers.proofs.settled.bring_first.Goals as goal

pub bring_settled-requires : goal.bring_settled-requires
bring_settled-requires g c =
    other_at c.args.search.now c.loop-at.search c.args.completion.now c.args.found.now c.args.place c.loop-at.at _
    c.loop-at.invariant.0 c.requires c.get.ensures
