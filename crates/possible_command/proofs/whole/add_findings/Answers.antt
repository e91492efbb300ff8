use Rattle.std.proofs.Common.{◌≤◌, ℕ, subst}
use Rattle.possible_command.proofs.Adding.{all_added, goes_more}
use Rattle.possible_command.proofs.whole.add_findings.Goals as goal

pub loop-place-preserved : goal.loop-place-preserved
loop-place-preserved g c =
    goes_more c.args.spec.now c.args.budget c.args.found.now c.args.into.now c.loop-place.place c.loop-place.into
    c.add_finding.new.into (rw c.in_default.is at c.in_ok-report.ensures.added) c.loop-place.invariant

pub returns-clause-added : goal.returns-clause-added
returns-clause-added g c =
    all_added c.args.spec.now c.args.budget c.args.found.now c.args.into.now c.loop-place.place c.loop-place.into
    (subst (λ (n : ℕ). n ≤ c.loop-place.place) c.len-place-end.ensures c.loop-place-test.false)
    c.requires.found.facts_per_candidate c.requires.found.shown_per_candidate c.loop-place.invariant
