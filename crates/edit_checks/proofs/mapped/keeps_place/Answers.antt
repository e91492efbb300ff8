use Rattle.std.proofs.Common.{◌≡◌, ◌∙◌, List, Some, ap, slice_get, subst, sym}
use Rattle.currency_base.specs.declared.ids.RelId.{RelId}
use Rattle.currency_base.specs.declared.ids.RowId.{RowId}
use Rattle.spec_model.specs.Completion.{ranking_of}
use Rattle.edit_checks.proofs.Lists.{read_there}
use Rattle.edit_checks.proofs.MoreMapped.{AreRead, each_of_entity}
use Rattle.edit_checks.specs.Mapped.{KeepsRow}
use Rattle.edit_checks.proofs.mapped.keeps_place.Goals as goal

pub returns : goal.returns
returns c =
    let relations = c.args.spec.now.relations in
    let completion = c.args.completion.now in
    let map = c.args.map.now in
    let place = c.args.place in
    let own = c.index-relations-rel.result in
    let row = c.row.result.now in
    let read : AreRead relations map c.args.copied own row =
    record {
      is_relation = read_there relations c.relations.result.now map.target.0 c.target-rel.result.0 own c.requires.copy.target
          c.relations.ensures.value (ap (λ (rel : RelId). rel.0) c.target-rel.ensures) c.index-relations-rel.is
          c.requires.copy.is_target;
      is_row = c.row.ensures;
    } in
    let is_list : c.ranking-list.result.now ≡ ranking_of completion map.target.0 place.target.0 row.entity.0 =
    c.ranking-list.ensures
    ∙ ap (λ (rel : RelId). ranking_of completion rel.0 place.target.0 row.entity.0) c.target-rel.ensures in
    λ is.
    each_of_entity relations completion map place c.args.copied own row c.relations.ensures.facts c.requires.completion
    c.requires.copy c.requires.place read (KeepsRow completion map place c.args.copied)
    (λ at other here.
    c.keeps_rows.ensures is at other
    (subst (λ (list : List RowId). slice_get list at ≡ Some other) (sym is_list) here))
