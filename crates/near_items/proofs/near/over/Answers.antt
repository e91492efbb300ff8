use Rattle.near_items.proofs.Parts.{is_site}
use Rattle.near_items.proofs.near.over.Goals as goal

pub explain_at-requires-clause-site : goal.explain_at-requires-clause-site
explain_at-requires-clause-site g c =
    is_site c.parts_are_within.ensures c.parts_are_asked.ensures c.args.spec.now c.args.places.now c.in_ok-part.part
    c.args.question.now c.args.asks.now c.requires.within c.requires.places c.requires.question c.requires.asks
    c.in_ok-part.ensures c.is_specification.ensures
