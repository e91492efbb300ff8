use Rattle.std.proofs.Common.{arith, ◌∙◌, sym, ap, length}
use Rattle.spec_model.specs.declared.relation.Relation.{Relation}
use Rattle.spec_limits.specs.Limits.{is_crowded}
use Rattle.spec_limits.proofs.Chain.{too_many_relations, too_many_attrs, too_many_rows, too_many_of_one, relation_within, few_rows}
use Rattle.spec_limits.proofs.limits.limit_with_relation.Goals as goal

pub returns-then-relations-ge-MOST_RELATIONS : goal.returns-then-relations-ge-MOST_RELATIONS
returns-then-relations-ge-MOST_RELATIONS c =
    sym (too_many_relations c.args.spec.now c.args.relation.now c.requires.within
    (omega (arith, c.if-relations-ge-MOST_RELATIONS.true, ap (length {A = Relation}) c.relations.ensures.value)))

pub returns-then-len-gt-MOST_ATTRS : goal.returns-then-len-gt-MOST_ATTRS
returns-then-len-gt-MOST_ATTRS c =
    sym (too_many_attrs c.args.spec.now c.args.relation.now c.requires.within
    (omega (arith, c.if-relations-ge-MOST_RELATIONS.false, ap (length {A = Relation}) c.relations.ensures.value))
    (omega (arith, c.len.ensures, c.if-len-gt-MOST_ATTRS.true)))

pub overflow_sub-rows : goal.overflow_sub-rows
overflow_sub-rows c = omega (arith, c.requires.rows, few_rows c.args.spec.now c.requires.within)

pub returns-then-len-rows : goal.returns-then-len-rows
returns-then-len-rows c =
    sym (too_many_rows c.args.spec.now c.args.relation.now c.requires.within
    (omega (arith, c.if-relations-ge-MOST_RELATIONS.false, ap (length {A = Relation}) c.relations.ensures.value))
    (omega (arith, c.len.ensures, c.if-len-gt-MOST_ATTRS.false))
    (omega (arith, c.len-2.ensures, c.if-len-rows.true, c.requires.rows)))

pub returns-then-branch : goal.returns-then-branch
returns-then-branch c =
    sym (too_many_of_one c.args.spec.now c.args.relation.now c.requires.within
    (omega (arith, c.if-relations-ge-MOST_RELATIONS.false, ap (length {A = Relation}) c.relations.ensures.value))
    (omega (arith, c.len.ensures, c.if-len-gt-MOST_ATTRS.false))
    (omega (arith, c.len-2.ensures, c.if-len-rows.false, c.requires.rows, few_rows c.args.spec.now c.requires.within))
    (sym (ap is_crowded c.as_slice.ensures) ∙ sym c.in_ok-is_crowded.ensures ∙ c.if-branch.true))

pub returns : goal.returns
returns c =
    sym (relation_within c.args.spec.now c.args.relation.now c.requires.within
    (omega (arith, c.if-relations-ge-MOST_RELATIONS.false, ap (length {A = Relation}) c.relations.ensures.value))
    (omega (arith, c.len.ensures, c.if-len-gt-MOST_ATTRS.false))
    (omega (arith, c.len-2.ensures, c.if-len-rows.false, c.requires.rows, few_rows c.args.spec.now c.requires.within))
    (sym (ap is_crowded c.as_slice.ensures) ∙ sym c.in_ok-is_crowded.ensures ∙ c.if-branch.false))
