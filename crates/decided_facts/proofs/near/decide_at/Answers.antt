use Rattle.decided_facts.proofs.Sites.{is_site}
use Rattle.decided_facts.proofs.near.decide_at.Goals as goal

pub decide_each-requires-clause-site : goal.decide_each-requires-clause-site
decide_each-requires-clause-site g c =
    is_site c.parts_are_within.ensures c.args.task.now.spec.now c.args.places.now c.in_ok-part.part c.requires.task.within
    c.requires.places c.in_ok-part.ensures c.is_specification.ensures
