use Rattle.std.proofs.Math.Facts.{Fits-of_lt}
use Rattle.currency_report.proofs.Places.{attr_fits, is_attr}
use Rattle.currency_report.proofs.place.attr_named.Goals as goal

pub overflow_cast-result-2 : goal.overflow_cast-result-2
overflow_cast-result-2 c =
    Fits-of_lt (attr_fits c.args.spec.now c.args.names.now c.in_ok-rel.rel c.relation-parts.result.now
    c.relations-relations.ensures.facts c.requires
    c.relation-parts.ensures c.args.attr.now.name c.in_ok-attr.attr c.in_ok-attr.ensures.place)

pub returns : goal.returns
returns c =
    is_attr c.args.spec.now c.args.names.now c.args.relation.now c.args.attr.now c.in_ok-rel.rel c.in_ok-attr.attr
    c.relation-parts.result.now c.requires
    c.relation-parts.ensures (rw c.relations.ensures at c.in_ok-rel.ensures.place) c.in_ok-attr.ensures.place
