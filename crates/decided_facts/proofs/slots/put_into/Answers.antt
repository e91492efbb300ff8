use Rattle.decided_facts.proofs.Sites.{fits, joined}
use Rattle.decided_facts.proofs.slots.put_into.Goals as goal

pub put-requires-clause-places : goal.put-requires-clause-places
put-requires-clause-places c = (c.requires.site.scope, c.requires.site.is_part.places)

pub put-requires-clause-narrow : goal.put-requires-clause-narrow
put-requires-clause-narrow c =
    fits c.completions_fit.ensures c.args.site.now.task.now.spec.now c.args.site.now.places.now c.args.site.now.part.now
    c.args.narrow.now c.requires.site c.requires.narrow

pub returns : goal.returns
returns c =
    joined c.parts_join.ensures.part c.args.site.now.task.now.spec.now c.args.site.now.places.now c.args.site.now.part.now
    c.args.completion.now c.args.narrow.now c.put.new.completion c.requires.site c.requires.consistent c.requires.narrow
    c.in_ok-put.ensures
