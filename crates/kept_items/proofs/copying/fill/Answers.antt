use Rattle.std.proofs.Common.{◌∙◌, sym, ap, subst, arith}
use Rattle.std.proofs.lemmas.Result.{on_ok_weaker}
use Rattle.spec_model.specs.Facts.{AreRules, AreCopies}
use Rattle.kept_items.specs.Marked.{HasMarked}
use Rattle.kept_items.specs.Steps.{marked, marked_copies}
use Rattle.kept_items.proofs.Counted.{items_many}
use Rattle.kept_items.proofs.Fits.{are_relations, are_rules, are_copies}
use Rattle.kept_items.proofs.Same.{has_marked, put_whole}
use Rattle.kept_items.proofs.copying.fill.Goals as goal

pub put_relations-requires-clause-marks : goal.put_relations-requires-clause-marks
put_relations-requires-clause-marks c =
    let many = items_many c.args.whole.now in
    omega (arith, many, c.requires.marks)

pub put_relations-requires-clause-fits : goal.put_relations-requires-clause-fits
put_relations-requires-clause-fits c =
    are_relations c.args.marks.now 0 c.args.whole.now.relations c.is_specification.ensures.relations

pub put_rules-requires-clause-marks : goal.put_rules-requires-clause-marks
put_rules-requires-clause-marks c =
    let many = items_many c.args.whole.now in
    omega (arith, many, c.requires.marks, c.in_ok-put_relations.ensures.next)

pub put_rules-requires-clause-fits : goal.put_rules-requires-clause-fits
put_rules-requires-clause-fits c =
    let whole = c.args.whole.now in
    subst (λ relations. AreRules relations (marked c.args.marks.now c.put_relations.new.at whole.rules))
    (sym (ap (λ q. q.relations) c.in_ok-put_relations.ensures.kept))
    (are_rules c.args.marks.now 0 c.put_relations.new.at whole.relations whole.rules c.is_specification.ensures.rules)

pub put_copies-requires-clause-marks : goal.put_copies-requires-clause-marks
put_copies-requires-clause-marks c =
    let many = items_many c.args.whole.now in
    omega (arith, many, c.requires.marks, c.in_ok-put_relations.ensures.next, c.in_ok-put_rules.ensures.next)

pub put_copies-requires-clause-fits : goal.put_copies-requires-clause-fits
put_copies-requires-clause-fits c =
    let whole = c.args.whole.now in
    let relations = ap (λ q. q.relations) c.in_ok-put_rules.ensures.kept
    ∙ ap (λ q. q.relations) c.in_ok-put_relations.ensures.kept in
    subst (λ rs. AreCopies rs (marked_copies whole.relations c.args.marks.now c.put_rules.new.at whole.copies)) (sym relations)
    (are_copies c.args.marks.now 0 c.put_rules.new.at whole.relations whole.copies c.is_specification.ensures.copies)

pub returns : goal.returns
returns c =
    let whole = c.args.whole.now in
    let marks = c.args.marks.now in
    on_ok_weaker c.put_copies.result
    (λ copies.
    subst (HasMarked whole marks)
    (sym (put_whole whole marks c.args.part.now c.put_relations.new.part c.put_rules.new.part c.put_copies.new.part
    c.put_relations.new.at c.put_rules.new.at c.in_ok-put_relations.ensures.kept c.in_ok-put_relations.ensures.next
    c.in_ok-put_rules.ensures.kept c.in_ok-put_rules.ensures.next copies))
    (has_marked whole marks c.is_specification.ensures))
    c.put_copies.ensures
