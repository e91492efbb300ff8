use Rattle.std.proofs.Common.{◌∙◌}
use Rattle.order_literals.specs.Statements.{statements_of}
use Rattle.order_start.specs.Lists.{Subject}
use Rattle.order_start.proofs.Subjects.{row_in, name_in, name_row_in, name_named, wanted_row, truth_within}
use Rattle.order_start.proofs.source.Source.put_last.Goals as goal

pub name-name-requires : goal.name-name-requires
name-name-requires c =
    let fields = c.self.inside in
    let s : Subject = record {
      relations = fields.spec.now.relations;
      wanted = fields.wanted.now;
      numbers =
          fields.numbering.now;
      known = fields.known.now.given;
    } in
    let r = c.relation-relation.result.now in
    let here = wanted_row s c.args.self.now c.args.rel.0 c.args.attr.0 c.args.row r c.self.view_is c.self.invariant
    c.relation-relation.ensures.facts c.relation-relation.ensures.value c.requires.attr c.requires.row c.requires.wanted in
    row_in s c.args.rel.0 c.args.attr.0 c.args.row r here

pub top-requires : goal.top-requires
top-requires c =
    let fields = c.self.inside in
    let s : Subject = record {
      relations = fields.spec.now.relations;
      wanted = fields.wanted.now;
      numbers =
          fields.numbering.now;
      known = fields.known.now.given;
    } in
    let r = c.relation-relation.result.now in
    let here = wanted_row s c.args.self.now c.args.rel.0 c.args.attr.0 c.args.row r c.self.view_is c.self.invariant
    c.relation-relation.ensures.facts c.relation-relation.ensures.value c.requires.attr c.requires.row c.requires.wanted in
    row_in s c.args.rel.0 c.args.attr.0 c.args.row r here

pub make_true-requires : goal.make_true-requires
make_true-requires c =
    let fields = c.self.inside in
    let s : Subject = record {
      relations = fields.spec.now.relations;
      wanted = fields.wanted.now;
      numbers =
          fields.numbering.now;
      known = fields.known.now.given;
    } in
    truth_within s c.args.self.now _ _ c.self.view_is (c.one_literal.ensures.within (statements_of s.numbers)
    c.top.result _ c.top.ensures) c.requires.truths

pub last-requires-clause-row : goal.last-requires-clause-row
last-requires-clause-row c =
    let fields = c.self.inside in
    let s : Subject = record {
      relations = fields.spec.now.relations;
      wanted = fields.wanted.now;
      numbers =
          fields.numbering.now;
      known = fields.known.now.given;
    } in
    let r = c.relation-relation.result.now in
    let here = wanted_row s c.args.self.now c.args.rel.0 c.args.attr.0 c.args.row r c.self.view_is c.self.invariant
    c.relation-relation.ensures.facts c.relation-relation.ensures.value c.requires.attr c.requires.row c.requires.wanted in
    let name = c.name-name.result in
    let is = name_in s c.args.rel.0 c.args.attr.0 c.args.row name r here c.name-name.ensures in
    name_row_in s c.args.rel.0 c.args.attr.0 c.args.row name r here is

pub last-requires-clause-named : goal.last-requires-clause-named
last-requires-clause-named c =
    let fields = c.self.inside in
    let s : Subject = record {
      relations = fields.spec.now.relations;
      wanted = fields.wanted.now;
      numbers =
          fields.numbering.now;
      known = fields.known.now.given;
    } in
    let r = c.relation-relation.result.now in
    let here = wanted_row s c.args.self.now c.args.rel.0 c.args.attr.0 c.args.row r c.self.view_is c.self.invariant
    c.relation-relation.ensures.facts c.relation-relation.ensures.value c.requires.attr c.requires.row c.requires.wanted in
    let name = c.name-name.result in
    let is = name_in s c.args.rel.0 c.args.attr.0 c.args.row name r here c.name-name.ensures in
    name_named s c.args.rel.0 c.args.attr.0 c.args.row name r here is

pub make_true-requires-2 : goal.make_true-requires-2
make_true-requires-2 c =
    let fields = c.self.inside in
    let s : Subject = record {
      relations = fields.spec.now.relations;
      wanted = fields.wanted.now;
      numbers =
          fields.numbering.now;
      known = fields.known.now.given;
    } in
    truth_within s c.args.self.now _ _ c.self.view_is (c.one_literal.ensures.within (statements_of s.numbers)
    c.last.result _ c.last.ensures) (c.make_true.ensures ∙ c.requires.truths)
