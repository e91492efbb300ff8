use Rattle.std.proofs.Common.{◌≡◌, ◌+◌, false, arith}
use Rattle.refutation_log.specs.Counted.{counted_steps}
use Rattle.refutation_log.specs.declared.step.Label.TheVariants as label
use Rattle.order_search.proofs.Growing.{on_ok}
use Rattle.order_search.proofs.Matched.{counted_one, held_matched, match_for}
use Rattle.order_search.proofs.TiedSteps.{matched_tied}
use Rattle.order_search.proofs.matching.add_match.Goals as goal

pub put_match-requires-clause-is_match : goal.put_match-requires-clause-is_match
put_match-requires-clause-is_match g c =
    let old = c.args.progress.now in
    match_for c.args.subject.now old.solver old.brought.items c.args.completion.now c.args.m.now c.args.answer
    c.requires.held c.requires.is_match

pub tie-requires-clause-answer : goal.tie-requires-clause-answer
tie-requires-clause-answer g c =
    let old = c.args.progress.now in
    (match_for c.args.subject.now old.solver old.brought.items c.args.completion.now c.args.m.now c.args.answer
    c.requires.held c.requires.is_match).answer_within

pub returns-clause-tied : goal.returns-clause-tied
returns-clause-tied g c =
    let s = c.args.subject.now in
    let old = c.args.progress.now in
    let asked = match_for s old.solver old.brought.items c.args.completion.now c.args.m.now c.args.answer c.requires.held
    c.requires.is_match in
    let matched = c.in_ok-home.ensures.ok in
    on_ok c.tie.result
    (λ to. matched_tied c.variables_have_parts.ensures.answers s c.args.parting.now c.tie.new.parting c.args.answer
    c.in_ok-home.home c.args.completion.now c.args.m.now false old.solver.steps c.put_match.new.solver.steps asked
    c.requires.tied matched (to matched.var matched.says)) c.tie.ensures

pub returns-clause-held : goal.returns-clause-held
returns-clause-held g c =
    let old = c.args.progress.now in
    held_matched c.laws_of_tuple_order.ensures.total c.args.subject.now old.solver old.brought.items c.requires.held
    c.args.completion.now c.args.m.now
    c.args.answer c.requires.is_match c.put_match.new.solver false c.put_match.ensures.frame
    (c.in_ok-home.ensures.ok).matched
    (λ counted. let no : ⊥ = cc in absurd no)

pub returns-clause-units : goal.returns-clause-units
returns-clause-units g c =
    let old = c.args.progress.now.solver.steps in
    let m = c.args.m.now in
    let has = (c.in_ok-home.ensures.ok).matched in
    let one : counted_steps c.put_match.new.solver.steps ≡ counted_steps old + 0 =
    counted_one old c.put_match.new.solver.steps (label.Match m.disjunct m.entities m.values) has.lits false has.steps in
    omega (arith, one)
