use Rattle.near_items.proofs.Joins.{joined_completion}
use Rattle.near_items.proofs.failing.joined_failing.Goals as goal

pub joined-requires-clause-places : goal.joined-requires-clause-places
joined-requires-clause-places c = (c.requires.site.scope, c.requires.site.is_part.places)

pub joined-requires-clause-narrow : goal.joined-requires-clause-narrow
joined-requires-clause-narrow c =
    c.completions_fit.ensures c.args.site.now.spec.now c.requires.site.scope c.args.site.now.places.now
    c.args.site.now.part.now c.args.narrow.now c.requires.site.is_part c.requires.narrow

pub is_seen_to_fail-requires-clause-completion : goal.is_seen_to_fail-requires-clause-completion
is_seen_to_fail-requires-clause-completion c =
    joined_completion c.args.site.now.spec.now c.requires.site.scope c.args.site.now.places.now c.args.site.now.part.now
    c.args.base.now c.args.narrow.now c.in_ok-wide.wide c.requires.site.specification c.requires.site.is_part
    c.requires.base c.requires.narrow c.in_ok-wide.ensures
