use Rattle.std.proofs.Common.{ap, length, arith, false, true, slice_set, subst}
use Rattle.spec_items.specs.Items.{items_of}
use Rattle.minimal_items.specs.Among.{marked_items}
use Rattle.minimal_items.specs.Trials.{IsTrialWith}
use Rattle.minimal_items.proofs.Reductions.{left_out, read_item, read_mark, reduced_as, some_item, spent_with, taken_back}
use Rattle.minimal_items.proofs.Reductions.{unmarked}
use Rattle.minimal_items.proofs.leaving.leave_out.Goals as goal

pub returns-then-not-marks-place : goal.returns-then-not-marks-place
returns-then-not-marks-place g c =
    let s = c.args.spec.now in
    let many = ap length c.requires.items in
    let is = some_item c.args.items.now (items_of s) c.args.place c.requires.items c.requires.place in
    let mark = read_mark c.args.marks.now (length (items_of s)) c.args.place false c.requires.earlier.per_item
    (omega (arith, c.requires.place, many)) c.if-not-marks-place.true in
    unmarked s c.args.question.now c.args.marks.now c.args.place c.args.needed.now is.0 c.requires.earlier is.1 mark

pub returns-in-Ok-Holds : goal.returns-in-Ok-Holds
returns-in-Ok-Holds g c =
    let s = c.args.spec.now in
    let many = ap length c.requires.items in
    let is = some_item c.args.items.now (items_of s) c.args.place c.requires.items c.requires.place in
    let mark = read_mark c.args.marks.now (length (items_of s)) c.args.place true c.requires.earlier.per_item
    (omega (arith, c.requires.place, many)) c.if-not-marks-place.false in
    let items = marked_items (items_of s) (slice_set c.args.marks.now c.args.place false) in
    left_out s c.args.question.now c.args.marks.now c.args.place c.args.needed.now is.0 c.requires.earlier is.1
    c.fewer_items.ensures mark
    (subst (IsTrialWith s c.args.question.now items c.args.budget) c.in-Ok-Holds.field-0-is c.in-Ok-Holds.ensures)

pub returns-in_ok-take_back-in-Ok-Fails : goal.returns-in_ok-take_back-in-Ok-Fails
returns-in_ok-take_back-in-Ok-Fails g c =
    let s = c.args.spec.now in
    let marks = c.args.marks.now in
    let many = ap length c.requires.items in
    let mark = read_mark marks (length (items_of s)) c.args.place true c.requires.earlier.per_item
    (omega (arith, c.requires.place, many)) c.if-not-marks-place.false in
    let items = marked_items (items_of s) (slice_set marks c.args.place false) in
    let at = read_item c.args.items.now (items_of s) c.args.place _ c.requires.items c.requires.place in
    reduced_as s c.args.question.now _ _ c.take_back.new.marks _ c.take_back.new.needed
    c.in_ok-take_back-in-Ok-Fails.ensures.marks c.in_ok-take_back-in-Ok-Fails.ensures.needed
    (taken_back s c.args.question.now marks c.args.place c.args.needed.now _ c.requires.earlier at c.fewer_items.ensures mark
    c.in-Ok-Fails.without
    (subst (IsTrialWith s c.args.question.now items c.args.budget) c.in-Ok-Fails.field-0-is c.in-Ok-Fails.ensures))

pub returns-in_ok-spent_on-in-Ok-Open : goal.returns-in_ok-spent_on-in-Ok-Open
returns-in_ok-spent_on-in-Ok-Open g c =
    spent_with c.args.spec.now c.args.question.now (slice_set c.args.marks.now c.args.place false) c.args.budget c.args.items.now
    c.in-Ok-Open.field-0 c.in-Ok-Open.part c.in-Ok-Open.report c.in_ok-spent_on-in-Ok-Open.field-0 c.requires.items
    c.in-Ok-Open.ensures c.in-Ok-Open.field-0-is c.in_ok-spent_on-in-Ok-Open.ensures
