use Rattle.std.proofs.Common.{◌≡◌, ◌<◌, List, Some, length, subst, sym}
use Rattle.currency_base.specs.declared.ids.RowId.{RowId}
use Rattle.spec_model.specs.Current.{last_row}
use Rattle.current_tuples.proofs.Readable.{some_ranked, last_of_entity, row_within}
use Rattle.current_tuples.proofs.value.last_row.Goals as goal

pub end_of-requires : goal.end_of-requires
end_of-requires c =
    subst (λ (list : List RowId). 0 < length list) (sym c.ranking.ensures)
    (some_ranked c.args.spec.now.relations c.args.completion.now c.args.rel.0 c.args.attr.0 c.args.ent.0 c.relations.ensures.facts
    c.requires.completion c.requires.place)

pub returns-clause-of_entity : goal.returns-clause-of_entity
returns-clause-of_entity c =
    last_of_entity c.args.spec.now.relations c.args.completion.now c.args.rel.0 c.args.attr.0 c.args.ent.0 c.requires.completion
    c.requires.place c.end_of.result
    (subst (λ (list : List RowId). last_row list ≡ Some c.end_of.result) c.ranking.ensures c.end_of.ensures)

pub returns-clause-within : goal.returns-clause-within
returns-clause-within c = λ r at. row_within r.rows c.end_of.result.0 c.args.ent.0 (returns-clause-of_entity c r at)
