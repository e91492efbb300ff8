use Rattle.std.proofs.Common.{◌≡◌, Some, get_or, length, ap, sym, ◌∙◌, arith}
use Rattle.spec_model.specs.declared.relation.Relation.{Relation}
use Rattle.current_tuples.proofs.Readable.{same_read}
use Rattle.current_tuples.proofs.Fronts.{front_more, front_all}
use Rattle.current_tuples.proofs.instance.entity_tuple.Goals as goal

pub loop-attr-preserved : goal.loop-attr-preserved
loop-attr-preserved c = λ r at.
    let value = c.last-value.ensures r at ∙ ap Some (sym c.in_ok-duplicate.ensures) in
    rw c.in_ok-push-2.ensures.ok
    (front_more c.args.completion.now c.args.rel.0 r c.args.ent.0 c.loop-attr.attr c.loop-attr.tuple
    c.in_ok-duplicate.field-0 value
    (c.loop-attr.invariant r at))

pub returns : goal.returns
returns c = λ r at.
    let own = c.index-relations-rel.result in
    let read : own ≡ get_or c.args.spec.now.relations c.args.rel.0 own = rw c.relations.ensures.value at
    c.index-relations-rel.is in
    let same = same_read c.args.spec.now.relations c.args.rel.0 own r read at in
    let attrs = c.len-attr-end.ensures ∙ ap (λ (p : Relation). length p.attrs) same in
    let all : c.loop-attr.attr ≡ length r.attrs = omega (arith, c.loop-attr-test.false, c.loop-attr.auto.attr-end, attrs) in
    front_all c.args.completion.now c.args.rel.0 r c.args.ent.0 c.loop-attr.attr c.loop-attr.tuple all
    (c.loop-attr.invariant r at)
