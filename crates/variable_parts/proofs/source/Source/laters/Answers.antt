use Rattle.std.proofs.Common.{subst, arith}
use Rattle.std.proofs.lemmas.Option.{slice_get_within}
use Rattle.spec_model.specs.Facts.{AreRelations}
use Rattle.variable_parts.specs.Told.{Divided, IsDivided}
use Rattle.variable_parts.proofs.SourceRows.{few_rows, laters_are, relation_with, row_in_lists, table_in}
use Rattle.variable_parts.proofs.source.Source.laters.Goals as goal

pub lists-lists-requires : goal.lists-lists-requires
lists-lists-requires c =
    let d = c.args.self.now in
    let has = relation_with d c.args.rel c.args.row.0 c.requires in
    table_in d c.self.inside.numbering.now (subst (IsDivided c.self.inside.numbering.now) c.self.view_is c.self.invariant.divided)
    c.args.rel (slice_get_within d.spec.relations c.args.rel.0 has.relation has.is_relation)

pub entity-requires : goal.entity-requires
entity-requires c =
    row_in_lists c.args.self.now c.self.inside.numbering.now (subst (IsDivided c.self.inside.numbering.now) c.self.view_is
    c.self.invariant.divided) c.args.rel c.args.row c.requires c.lists-lists.result.now c.lists-lists.ensures

pub place-requires : goal.place-requires
place-requires c =
    row_in_lists c.args.self.now c.self.inside.numbering.now (subst (IsDivided c.self.inside.numbering.now) c.self.view_is
    c.self.invariant.divided) c.args.rel c.args.row c.requires c.lists-lists.result.now c.lists-lists.ensures

pub overflow_sub-result : goal.overflow_sub-result
overflow_sub-result c =
    omega (
      arith,
      laters_are c.args.self.now c.self.inside.numbering.now (subst (IsDivided c.self.inside.numbering.now)
          c.self.view_is c.self.invariant.divided) c.args.rel c.args.row c.requires c.lists-lists.result.now c.lists-lists.ensures
          c.entity.result.0 c.place.result c.of_entity-rows.result.now c.entity.ensures.value c.of_entity-rows.ensures
          (c.place.ensures c.entity.result.0 c.entity.ensures.value),
    )

pub overflow_sub-result-2 : goal.overflow_sub-result-2
overflow_sub-result-2 c =
    omega (
      arith,
      laters_are c.args.self.now c.self.inside.numbering.now (subst (IsDivided c.self.inside.numbering.now)
          c.self.view_is c.self.invariant.divided) c.args.rel c.args.row c.requires c.lists-lists.result.now c.lists-lists.ensures
          c.entity.result.0 c.place.result c.of_entity-rows.result.now c.entity.ensures.value c.of_entity-rows.ensures
          (c.place.ensures c.entity.result.0 c.entity.ensures.value),
    )

pub returns-clause-value : goal.returns-clause-value
returns-clause-value c =
    omega (
      arith,
      laters_are c.args.self.now c.self.inside.numbering.now (subst (IsDivided c.self.inside.numbering.now)
          c.self.view_is c.self.invariant.divided) c.args.rel c.args.row c.requires c.lists-lists.result.now c.lists-lists.ensures
          c.entity.result.0 c.place.result c.of_entity-rows.result.now c.entity.ensures.value c.of_entity-rows.ensures
          (c.place.ensures c.entity.result.0 c.entity.ensures.value),
    )

pub returns-clause-few : goal.returns-clause-few
returns-clause-few c =
    let facts = subst (λ (d : Divided). AreRelations d.spec.relations) c.self.view_is c.relations-relations.ensures.facts in
    omega (
      arith,
      few_rows c.args.self.now c.args.rel c.args.row.0 facts c.requires,
      laters_are c.args.self.now c.self.inside.numbering.now (subst (IsDivided c.self.inside.numbering.now) c.self.view_is
          c.self.invariant.divided) c.args.rel c.args.row c.requires c.lists-lists.result.now c.lists-lists.ensures
          c.entity.result.0 c.place.result c.of_entity-rows.result.now c.entity.ensures.value c.of_entity-rows.ensures
          (c.place.ensures c.entity.result.0 c.entity.ensures.value),
    )
