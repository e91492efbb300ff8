use Rattle.std.proofs.Common.{take}
use Rattle.std.proofs.lemmas.List.{take_more}
use Rattle.forced_values.proofs.Marked.{marked_more}
use Rattle.forced_values.proofs.marking.forced_facts.Goals as goal

pub loop-fact-preserved : goal.loop-fact-preserved
loop-fact-preserved c =
    let s = c.args.spec.now in
    let facts = c.args.facts.now in
    let i = c.loop-fact.fact-index in
    let f = c.fact-item.result in
    let marks = c.loop-fact.marks.items in
    rw (take_more facts i f c.loop-fact-test.true, ← c.fact-item.is, c.in_ok-push.ensures.items)
    (marked_more s (take i facts) marks f c.holds_by_force.result c.loop-fact.invariant c.holds_by_force.ensures)
