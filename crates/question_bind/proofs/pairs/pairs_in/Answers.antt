-- Each part in turn is the next of all, and its pairs are those that are due.
use Rattle.std.proofs.Common.{◌∙◌, get_or, sym}
use Rattle.std.proofs.lemmas.Option.{get_or_from_slice_get}
use Rattle.bind_faults.specs.Faults.{all_of}
use Rattle.bind_faults.proofs.Outcomes.{due_through}
use Rattle.question_bind.specs.Steps.{pairs_named, parts_with}
use Rattle.question_bind.proofs.Parts.{part_all, part_err, part_more}
use Rattle.question_bind.proofs.pairs.pairs_in.Goals as goal

pub returns-in-Err : goal.returns-in-Err
returns-in-Err c =
    let f = pairs_named c.args.names.now in
    let heads = c.args.heads.now in
    let trees = c.args.trees.now in
    let records = c.args.records.now in
    let said = c.as_slice-said.result.now in
    due_through (f (get_or heads c.loop-place.place _, c.index-trees-place.result, said))
    (all_of f (parts_with heads trees records)) c.in-Err.fault c.in-Err.ensures
    (λ is. part_err f heads trees records c.loop-place.place c.loop-place.lists _ c.index-trees-place.result said c.in-Err.fault
    (record { trees_many = c.requires.trees; xs_many = c.requires.records }) c.loop-place-test.true c.index-trees-place.is
    (c.as_slice-said.ensures ∙ sym (get_or_from_slice_get records c.loop-place.place c.get.result.now said
    c.get.ensures)) c.loop-place.invariant is)

pub loop-place-preserved : goal.loop-place-preserved
loop-place-preserved c =
    let said = c.as_slice-said.result.now in
    rw c.in-Ok-push.ensures.ok (part_more (pairs_named c.args.names.now) c.args.heads.now c.args.trees.now
    c.args.records.now c.loop-place.place c.loop-place.lists _
    c.index-trees-place.result said c.in-Ok.pairs
    (record { trees_many = c.requires.trees; xs_many = c.requires.records }) c.loop-place-test.true c.index-trees-place.is
    (c.as_slice-said.ensures ∙ sym (get_or_from_slice_get c.args.records.now c.loop-place.place c.get.result.now said
    c.get.ensures)) c.loop-place.invariant c.in-Ok.ensures)

pub returns : goal.returns
returns c =
    part_all (pairs_named c.args.names.now) c.args.heads.now c.args.trees.now c.args.records.now c.loop-place.place
    c.loop-place.lists
    (record { trees_many = c.requires.trees; xs_many = c.requires.records }) c.loop-place-test.false c.loop-place.invariant
