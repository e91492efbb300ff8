use Rattle.std.proofs.Common.{◌∙◌, List, ap, arith, get_or, subst, sym}
use Rattle.posed_facts.specs.declared.fact.Fact.{Fact}
use Rattle.decided_facts.specs.Decided.{AreShown, IsOpenAt}
use Rattle.decided_facts.specs.Steps.{AreMarked}
use Rattle.possible_values.proofs.Findings.{are_findings}
use Rattle.possible_values.proofs.Listed.{are_candidates}
use Rattle.possible_values.proofs.Outcomes.{are_shown, is_open, open_read, open_within}
use Rattle.possible_values.proofs.finding.of_facts.Goals as goal

pub decide_facts-requires-clause-holds : goal.decide_facts-requires-clause-holds
decide_facts-requires-clause-holds g c =
    subst (λ (l : List Fact). AreMarked c.args.spec.now l c.in_ok-holds.holds.items)
    (c.as_slice.ensures ∙ sym c.as_slice-2.ensures)
    (c.in_ok-holds.ensures c.args.spec.now)

pub remove-requires : goal.remove-requires
remove-requires g c =
    let s = c.args.spec.now in
    let facts = c.as_slice-2.result.now in
    let place = c.in-Ok-Open.place in
    let report = c.in-Ok-Open.report in
    let left = is_open s facts c.args.budget place report c.in-Ok-Open.field-0 c.in-Ok-Open.field-0-is c.in-Ok-Open.ensures in
    let own = subst (λ (l : List Fact). IsOpenAt s l c.args.budget place report) (c.as_slice-2.ensures ∙ sym c.into_items.ensures)
    left in
    omega (arith, open_within s c.into_items.result.items c.args.budget place report own, c.into_items.result.ok)

pub returns-in-Ok-All : goal.returns-in-Ok-All
returns-in-Ok-All g c =
    let s = c.args.spec.now in
    let q = c.args.question.now in
    let all = are_shown s c.as_slice-2.result.now c.args.budget c.in-Ok-All.completions c.in-Ok-All.shown c.in-Ok-All.field-0
    c.in-Ok-All.field-0-is c.in-Ok-All.ensures in
    let own = subst (λ (l : List Fact). AreShown s l c.in-Ok-All.completions c.in-Ok-All.shown) c.as_slice-2.ensures all in
    are_findings s c.requires.within.specification.relations q _ c.requires.candidates
    (are_candidates s.relations q c.args.candidates c.requires.question c.requires.candidates) c.requires.facts own

pub returns-in-Ok-Open : goal.returns-in-Ok-Open
returns-in-Ok-Open g c =
    let s = c.args.spec.now in
    let facts = c.as_slice-2.result.now in
    let place = c.in-Ok-Open.place in
    let report = c.in-Ok-Open.report in
    let left = is_open s facts c.args.budget place report c.in-Ok-Open.field-0 c.in-Ok-Open.field-0-is c.in-Ok-Open.ensures in
    let own = subst (λ (l : List Fact). IsOpenAt s l c.args.budget place report) c.as_slice-2.ensures left in
    let read = open_read s c.args.facts c.args.budget place report own c.requires.facts.posable c.remove.result
    (c.remove.ensures.value ∙ ap (λ (l : List Fact). get_or l place c.remove.result) c.into_items.ensures) in
    ((c.args.candidates, c.requires.candidates), read.0, read.1)
