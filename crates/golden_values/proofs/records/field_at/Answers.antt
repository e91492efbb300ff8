use Rattle.decided_facts.specs.declared.shown.Shown.TheVariants as shown
use Rattle.golden_values.proofs.FieldsShown.{field_read}
use Rattle.golden_values.proofs.records.field_at.Goals as goal

pub returns : goal.returns
returns c =
    rw c.field_by.ensures
    (field_read c.args.fields.now.spec.now c.args.fields.now.rel.0 c.args.fields.now.facts.now c.args.fields.now.shown.now
    c.requires.shown c.args.ent c.args.attr c.requires.place c.relation_at-relation.result.now c.relation_at-relation.ensures.is
    c.len.result c.len.ensures c.index-fields-place.result shown.Holds)
