use Rattle.certain_answers.proofs.Wanting.{other_at}
use Rattle.certain_answers.proofs.matched.bring_others.Goals as goal

pub bring-requires : goal.bring-requires
bring-requires g c =
    other_at c.args.search.now c.loop-at.search c.args.completion.now c.args.matched.now.others c.args.place
    c.loop-at.at _ c.loop-at.invariant.0 c.requires c.get-other.ensures
