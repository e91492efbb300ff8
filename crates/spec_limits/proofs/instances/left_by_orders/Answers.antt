use Rattle.std.proofs.Common.{◌≡◌, ◌<◌, ◌*◌, ◌∙◌, length, List, get_or, sym, ap, refl}
use Rattle.std.specs.List.{sum_by}
use Rattle.currency_base.specs.declared.ids.RowId.{RowId}
use Rattle.spec_limits.specs.Instances.{order_instances, two_for_each_three}
use Rattle.spec_limits.specs.Left.{left_of}
use Rattle.spec_limits.proofs.Leaving.{goes_on, stops, ends}
use Rattle.spec_limits.proofs.OfSpec.{order_sum, read_at}
use Rattle.spec_limits.proofs.instances.left_by_orders.Goals as goal

pub returns-in_default : goal.returns-in_default
returns-in_default c =
    let s = c.args.spec.now in
    let rel = c.loop-rel.rel in
    let r = c.relation-item.result in
    let within : rel < length s.relations = rw c.relations-relation-items.ensures.value at c.loop-rel-test.true in
    let read : r ≡ get_or s.relations rel r = rw c.relations-relation-items.ensures.value at c.relation-item.is in
    let here = order_sum s.relations c.args.lists.now rel r c.get-entities.result.now c.requires
    (read_at s.relations rel rel r refl within read) c.get-entities.ensures in
    let left = c.left_by_relation.ensures
    ∙ ap (λ n. left_of c.loop-rel.left (sum_by (λ (rows : List RowId). n * two_for_each_three (length rows))
    c.as_slice.result.now)) c.len-attrs.ensures
    ∙ ap (left_of c.loop-rel.left) (rw (← c.as_slice.ensures) at here) in
    sym (stops order_instances s.relations rel r c.args.left c.loop-rel.left within read c.loop-rel.invariant
    (sym left ∙ c.in_default.is))

pub loop-rel-preserved : goal.loop-rel-preserved
loop-rel-preserved c =
    let s = c.args.spec.now in
    let rel = c.loop-rel.rel in
    let r = c.relation-item.result in
    let within : rel < length s.relations = rw c.relations-relation-items.ensures.value at c.loop-rel-test.true in
    let read : r ≡ get_or s.relations rel r = rw c.relations-relation-items.ensures.value at c.relation-item.is in
    let here = order_sum s.relations c.args.lists.now rel r c.get-entities.result.now c.requires
    (read_at s.relations rel rel r refl within read) c.get-entities.ensures in
    let left = c.left_by_relation.ensures
    ∙ ap (λ n. left_of c.loop-rel.left (sum_by (λ (rows : List RowId). n * two_for_each_three (length rows))
    c.as_slice.result.now)) c.len-attrs.ensures
    ∙ ap (left_of c.loop-rel.left) (rw (← c.as_slice.ensures) at here) in
    goes_on order_instances s.relations rel r c.args.left c.loop-rel.left c.in-Some.rest within read
    c.loop-rel.invariant (sym left ∙ c.in-Some.is)

pub returns : goal.returns
returns c =
    sym (ends order_instances c.args.spec.now.relations c.loop-rel.rel c.args.left c.loop-rel.left
    (rw c.relations-relation-items.ensures.value at c.loop-rel-test.false) c.loop-rel.invariant)
