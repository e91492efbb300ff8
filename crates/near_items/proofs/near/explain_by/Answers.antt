use Rattle.minimal_items.specs.Explanations.{needed_items}
use Rattle.near_items.proofs.Rules.{rules_of_all}
use Rattle.near_items.proofs.near.explain_by.Goals as goal

pub widen-requires-clause-base : goal.widen-requires-clause-base
widen-requires-clause-base c =
    rules_of_all c.all_items.ensures c.fewer_items.ensures c.args.site.now.spec.now (needed_items c.args.narrow.now)
    c.args.base.now c.requires.base
