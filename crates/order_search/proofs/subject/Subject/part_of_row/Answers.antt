use Rattle.std.proofs.lemmas.Option.{slice_get_within}
use Rattle.order_search.proofs.PartNumbers.{ent_labelled, rel_labelled, row_label, row_there}
use Rattle.order_search.proofs.subject.Subject.part_of_row.Goals as goal

pub relation-relation-requires : goal.relation-relation-requires
relation-relation-requires c =
    slice_get_within c.args.self.now.spec.relations c.args.rel.0 c.requires.row.relation c.requires.row.is_relation

pub get-requires : goal.get-requires
get-requires c =
    row_there c.args.self.now.spec c.args.rel c.args.row c.relation-relation.result.now c.requires.row
    c.relation-relation.ensures.value

pub part_of-requires-clause-rel : goal.part_of-requires-clause-rel
part_of-requires-clause-rel c =
    rel_labelled c.args.self.now.spec c.args.parts.now.ties c.requires.parts.ties c.args.rel.0 c.relation-relation.result.now
    c.relation-relation.ensures.value

pub part_of-requires-clause-ent : goal.part_of-requires-clause-ent
part_of-requires-clause-ent c =
    ent_labelled c.args.self.now.spec c.args.parts.now.ties c.requires.parts.ties c.args.rel.0 c.relation-relation.result.now
    c.relation-relation.ensures.value c.args.row.0 c.get.result.now c.get.ensures c.relation-relation.ensures.facts

pub returns : goal.returns
returns c =
    row_label c.args.self.now.spec c.args.parts.now.ties c.requires.parts.ties c.args.rel.0 c.relation-relation.result.now
    c.relation-relation.ensures.value c.args.row.0 c.get.result.now c.get.ensures c.part_of.result c.part_of.ensures
