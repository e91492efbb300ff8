use Rattle.std.proofs.Common.{◌≡◌, ◌∙◌, sym, ap, subst}
use Rattle.entity_ties.specs.Labels.{Labelling, cell, label_of}
use Rattle.variable_parts.specs.Told.{Divided, IsDivided}
use Rattle.variable_parts.proofs.SourceRows.{ent_in_labels, key_is, rel_in_labels, relation_with, row_in_lists, table_in}
use Rattle.std.proofs.lemmas.Option.{slice_get_within}
use Rattle.variable_parts.proofs.source.Source.part.Goals as goal

pub lists-requires : goal.lists-requires
lists-requires c =
    let d = c.args.self.now in
    let has = relation_with d c.args.rel c.args.row.0 c.requires in
    table_in d c.self.inside.numbering.now (subst (IsDivided c.self.inside.numbering.now) c.self.view_is c.self.invariant.divided)
    c.args.rel (slice_get_within d.spec.relations c.args.rel.0 has.relation has.is_relation)

pub entity-requires : goal.entity-requires
entity-requires c =
    row_in_lists c.args.self.now c.self.inside.numbering.now (subst (IsDivided c.self.inside.numbering.now) c.self.view_is
    c.self.invariant.divided) c.args.rel c.args.row c.requires c.lists.result.now c.lists.ensures

pub part_of-requires-clause-rel : goal.part_of-requires-clause-rel
part_of-requires-clause-rel c =
    let same : c.self.inside.ties.now ≡ c.args.self.now.ties = ap (λ (d : Divided). d.ties) c.self.view_is in
    rw same
    (rel_in_labels c.args.self.now c.self.inside.numbering.now (subst (IsDivided c.self.inside.numbering.now) c.self.view_is
    c.self.invariant.divided) c.args.rel c.args.row c.requires c.lists.result.now c.lists.ensures)

pub part_of-requires-clause-ent : goal.part_of-requires-clause-ent
part_of-requires-clause-ent c =
    let same : c.self.inside.ties.now ≡ c.args.self.now.ties = ap (λ (d : Divided). d.ties) c.self.view_is in
    rw same
    (ent_in_labels c.args.self.now c.self.inside.numbering.now (subst (IsDivided c.self.inside.numbering.now) c.self.view_is
    c.self.invariant.divided) c.args.rel c.args.row c.requires c.lists.result.now c.lists.ensures c.entity.result.0
    c.entity.ensures.within)

pub returns : goal.returns
returns c =
    let same : c.self.inside.ties.now ≡ c.args.self.now.ties = ap (λ (d : Divided). d.ties) c.self.view_is in
    key_is c.args.self.now c.self.inside.numbering.now (subst (IsDivided c.self.inside.numbering.now) c.self.view_is
    c.self.invariant.divided) c.args.rel c.args.row c.requires c.lists.result.now c.lists.ensures c.entity.result.0
    c.part_of.result
    c.entity.ensures.value (ap (λ (t : Labelling). label_of t (cell c.args.rel.0 c.entity.result.0)) (sym same)
    ∙ c.part_of.ensures)
