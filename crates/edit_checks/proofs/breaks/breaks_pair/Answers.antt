use Rattle.std.proofs.Common.{◌<◌, ℕ, length, subst, sym}
use Rattle.std.proofs.lemmas.Option.{slice_get_within}
use Rattle.edit_checks.proofs.Turned.{list_there, pair_of, turned}
use Rattle.edit_checks.specs.Stays.{IsTurned}
use Rattle.edit_checks.proofs.breaks.breaks_pair.Goals as goal

pub row-requires : goal.row-requires
row-requires c = (pair_of c.args.relation.now c.args.asked.pair c.requires.facts c.requires.given).earlier

pub ranking-requires-clause-rel : goal.ranking-requires-clause-rel
ranking-requires-clause-rel c =
    subst (λ (n : ℕ). c.args.asked.rel.0 < n) (sym c.requires.shape.per_relation)
    (slice_get_within c.args.spec.now.relations c.args.asked.rel.0 c.args.relation.now c.requires.relation)

pub ranking-requires-clause-attr : goal.ranking-requires-clause-attr
ranking-requires-clause-attr c =
    subst (λ (n : ℕ). c.args.asked.pair.attr.0 < n)
    (sym (c.requires.shape.per_attr c.args.asked.rel.0 c.args.relation.now c.requires.relation))
    (pair_of c.args.relation.now c.args.asked.pair c.requires.facts c.requires.given).attr

pub ranking-requires-clause-ent : goal.ranking-requires-clause-ent
ranking-requires-clause-ent c =
    list_there c.args.spec.now c.args.completion.now c.args.asked.rel.0 c.args.relation.now c.args.asked.pair c.row.result.now
    c.requires.shape c.requires.relation c.requires.facts
    (pair_of c.args.relation.now c.args.asked.pair c.requires.facts c.requires.given).attr c.row.ensures

pub returns : goal.returns
returns c =
    λ is.
    turned c.args.spec.now c.args.completion.now c.args.asked.rel.0 c.args.relation.now c.args.asked.pair c.row.result.now
    c.requires.relation c.requires.facts c.requires.given c.row.ensures
    (subst (λ list. IsTurned list c.args.asked.pair) c.ranking.ensures (c.is_turned.ensures is))
