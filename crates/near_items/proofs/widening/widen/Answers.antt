use Rattle.minimal_items.specs.Explanations.{needed_items}
use Rattle.part_widens.specs.Widened.{rules_among}
use Rattle.unit_questions.specs.Facts.{FactHolds}
use Rattle.near_items.proofs.Joins.{have_completions, kept_completion}
use Rattle.near_items.proofs.Parts.{explained}
use Rattle.near_items.proofs.widening.widen.Goals as goal

pub widen_each-requires-clause-base : goal.widen_each-requires-clause-base
widen_each-requires-clause-base c =
    kept_completion c.args.site.now.spec.now (rules_among (needed_items c.args.narrow.now)) c.args.base.now c.requires.base

pub widen_each-requires-clause-narrow : goal.widen_each-requires-clause-narrow
widen_each-requires-clause-narrow c =
    have_completions c.args.site.now.part.now (FactHolds c.args.site.now.part.now.relations c.args.site.now.asks.now)
    (needed_items c.args.narrow.now) c.args.narrow.now c.requires.narrow.each_needed

pub returns-in-Ok-true : goal.returns-in-Ok-true
returns-in-Ok-true c =
    explained c.explanations_widen.ensures c.fewer_items.ensures c.args.site.now.spec.now c.args.site.now.places.now
    c.args.site.now.part.now c.args.site.now.question.now c.args.site.now.asks.now c.args.base.now c.args.narrow.now
    c.widen_each.new.wide c.requires.site c.requires.narrow c.requires.base (c.in-Ok-true.ensures c.in-Ok-true.field-0-test)
