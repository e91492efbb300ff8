use Rattle.near_items.proofs.Pairs.{in_places}
use Rattle.near_items.proofs.near.near.Goals as goal

pub asked_of-requires : goal.asked_of-requires
asked_of-requires g c =
    let closed = c.in_ok-places.ensures in
    in_places c.args.spec.now.relations closed.0 c.in_ok-places.places c.args.question.now closed.1 c.requires.question
