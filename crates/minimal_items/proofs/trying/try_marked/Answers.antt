use Rattle.minimal_items.specs.Among.{marked_items}
use Rattle.spec_items.specs.Items.{items_of}
use Rattle.minimal_items.specs.Trials.{IsPartTrial, IsTrialWith}
use Rattle.std.proofs.lemmas.Result.{IfOk-weaker}
use Rattle.minimal_items.proofs.Parts.{alike_part, question, tried_with, within}
use Rattle.minimal_items.proofs.trying.try_marked.Goals as goal

pub try_part-requires-clause-within : goal.try_part-requires-clause-within
try_part-requires-clause-within g c =
    let s = c.args.spec.now in
    let part = c.in_ok-part.part in
    let alike = alike_part s part c.args.marks.now c.in_ok-part.ensures c.requires.marks c.items_stand_once.ensures in
    within s part (marked_items (items_of s) c.args.marks.now) alike c.fewer_are_within.ensures c.is_specification.ensures
    c.requires.within

pub try_part-requires-clause-question : goal.try_part-requires-clause-question
try_part-requires-clause-question g c =
    let s = c.args.spec.now in
    let part = c.in_ok-part.part in
    let alike = alike_part s part c.args.marks.now c.in_ok-part.ensures c.requires.marks c.items_stand_once.ensures in
    question s part (marked_items (items_of s) c.args.marks.now) alike c.args.question.now c.requires.question

pub returns : goal.returns
returns g c =
    let s = c.args.spec.now in
    let part = c.in_ok-part.part in
    let items = marked_items (items_of s) c.args.marks.now in
    let alike = alike_part s part c.args.marks.now c.in_ok-part.ensures c.requires.marks c.items_stand_once.ensures in
    IfOk-weaker c.try_part.result (IsPartTrial part c.args.question.now c.args.budget)
    (IsTrialWith s c.args.question.now items c.args.budget)
    (tried_with s part items alike c.alike_are_one.ensures c.args.question.now c.args.budget) c.try_part.ensures
