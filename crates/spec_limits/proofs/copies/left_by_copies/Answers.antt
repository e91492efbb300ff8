use Rattle.std.proofs.Common.{◌≡◌, ◌<◌, ◌∙◌, length, get_or, sym, ap}
use Rattle.currency_base.specs.declared.ids.RelId.{RelId}
use Rattle.spec_limits.specs.Instances.{copy_instances}
use Rattle.spec_limits.specs.Left.{left_of}
use Rattle.spec_limits.proofs.Leaving.{goes_on, stops, ends}
use Rattle.spec_limits.proofs.OfSpec.{copy_at, copy_sum, entities_at, lists_of, relation_at, rows_read, within_lists}
use Rattle.spec_limits.proofs.copies.left_by_copies.Goals as goal

pub left_by_copy-requires-clause-lists : goal.left_by_copy-requires-clause-lists
left_by_copy-requires-clause-lists c =
    let s = c.args.spec.now in
    let copy = c.copy-item.result in
    let within : c.loop-copy.copy-index < length s.copies = rw c.copies-copy-items.ensures.value at c.loop-copy-test.true in
    let read : copy ≡ get_or s.copies c.loop-copy.copy-index copy = rw c.copies-copy-items.ensures.value at c.copy-item.is in
    let among = copy_at s.relations s.copies c.loop-copy.copy-index copy c.copies-copy-items.ensures.facts within read in
    let same = rows_read s.relations c.relations-relations.result.now copy.target c.target.result among.target
    c.index-relations-target.result
    c.as_slice-target.result.now c.relations-relations.ensures.value c.target.ensures among.is_target c.as_slice-target.ensures in
    let number = ap (λ (rel : RelId). rel.0) c.target-in-loop-copy.ensures in
    lists_of among.target c.as_slice-target.result.now c.get-entities.result.now
    (entities_at s.relations c.args.lists.now copy.target.0 c.target-in-loop-copy.result.0 among.target
    c.get-entities.result.now c.requires among.is_target number
    c.get-entities.ensures) same

pub left_by_copy-requires-clause-within : goal.left_by_copy-requires-clause-within
left_by_copy-requires-clause-within c =
    let s = c.args.spec.now in
    let copy = c.copy-item.result in
    let within : c.loop-copy.copy-index < length s.copies = rw c.copies-copy-items.ensures.value at c.loop-copy-test.true in
    let read : copy ≡ get_or s.copies c.loop-copy.copy-index copy = rw c.copies-copy-items.ensures.value at c.copy-item.is in
    let among = copy_at s.relations s.copies c.loop-copy.copy-index copy c.copies-copy-items.ensures.facts within read in
    let same = rows_read s.relations c.relations-relations.result.now copy.target c.target.result among.target
    c.index-relations-target.result
    c.as_slice-target.result.now c.relations-relations.ensures.value c.target.ensures among.is_target c.as_slice-target.ensures in
    let number = ap (λ (rel : RelId). rel.0) c.target-in-loop-copy.ensures in
    within_lists among.target c.as_slice-target.result.now c.get-entities.result.now
    (entities_at s.relations c.args.lists.now copy.target.0 c.target-in-loop-copy.result.0 among.target
    c.get-entities.result.now c.requires among.is_target number
    c.get-entities.ensures) (relation_at s.relations copy.target.0 among.target
    c.relations-relations.ensures.facts.each among.is_target) same

pub returns-in_default : goal.returns-in_default
returns-in_default c =
    let s = c.args.spec.now in
    let copy = c.copy-item.result in
    let within : c.loop-copy.copy-index < length s.copies = rw c.copies-copy-items.ensures.value at c.loop-copy-test.true in
    let read : copy ≡ get_or s.copies c.loop-copy.copy-index copy = rw c.copies-copy-items.ensures.value at c.copy-item.is in
    let among = copy_at s.relations s.copies c.loop-copy.copy-index copy c.copies-copy-items.ensures.facts within read in
    let target = rows_read s.relations c.relations-relations.result.now copy.target c.target.result among.target
    c.index-relations-target.result
    c.as_slice-target.result.now c.relations-relations.ensures.value c.target.ensures among.is_target c.as_slice-target.ensures in
    let source = rows_read s.relations c.relations-relations.result.now copy.source c.source.result among.source
    c.index-relations-source.result
    c.as_slice-source.result.now c.relations-relations.ensures.value c.source.ensures among.is_source c.as_slice-source.ensures in
    let here = copy_sum s.relations copy among.target among.source c.as_slice-target.result.now
    c.as_slice-source.result.now among.is_target among.is_source target source in
    sym (stops (copy_instances s.relations) s.copies c.loop-copy.copy-index copy c.args.left c.loop-copy.left within
    read c.loop-copy.invariant
    (sym (c.left_by_copy.ensures ∙ ap (left_of c.loop-copy.left) here) ∙ c.in_default.is))

pub loop-copy-preserved : goal.loop-copy-preserved
loop-copy-preserved c =
    let s = c.args.spec.now in
    let copy = c.copy-item.result in
    let within : c.loop-copy.copy-index < length s.copies = rw c.copies-copy-items.ensures.value at c.loop-copy-test.true in
    let read : copy ≡ get_or s.copies c.loop-copy.copy-index copy = rw c.copies-copy-items.ensures.value at c.copy-item.is in
    let among = copy_at s.relations s.copies c.loop-copy.copy-index copy c.copies-copy-items.ensures.facts within read in
    let target = rows_read s.relations c.relations-relations.result.now copy.target c.target.result among.target
    c.index-relations-target.result
    c.as_slice-target.result.now c.relations-relations.ensures.value c.target.ensures among.is_target c.as_slice-target.ensures in
    let source = rows_read s.relations c.relations-relations.result.now copy.source c.source.result among.source
    c.index-relations-source.result
    c.as_slice-source.result.now c.relations-relations.ensures.value c.source.ensures among.is_source c.as_slice-source.ensures in
    let here = copy_sum s.relations copy among.target among.source c.as_slice-target.result.now
    c.as_slice-source.result.now among.is_target among.is_source target source in
    goes_on (copy_instances s.relations) s.copies c.loop-copy.copy-index copy c.args.left c.loop-copy.left
    c.in-Some.rest within read c.loop-copy.invariant
    (sym (c.left_by_copy.ensures ∙ ap (left_of c.loop-copy.left) here) ∙ c.in-Some.is)

pub returns : goal.returns
returns c =
    sym (ends (copy_instances c.args.spec.now.relations) c.args.spec.now.copies c.loop-copy.copy-index c.args.left
    c.loop-copy.left
    (rw c.copies-copy-items.ensures.value at c.loop-copy-test.false) c.loop-copy.invariant)
