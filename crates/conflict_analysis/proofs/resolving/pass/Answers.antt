use Rattle.std.proofs.Common.{◌≡◌}
use Rattle.std.proofs.lemmas.Result.{on_ok_weaker}
use Rattle.conflict_analysis.proofs.Passing.{passes_met, passes_unmet}
use Rattle.conflict_analysis.proofs.resolving.pass.Goals as goal

pub returns-then-not-is_met-clause-ok : goal.returns-then-not-is_met-clause-ok
returns-then-not-is_met-clause-ok c =
    let h = c.if-not-is_met.true in let g = c.is_met.ensures in
    passes_unmet c.args.arena.now c.args.trail.now.entries c.args.bounds.base c.args.bounds.level c.args.place
    c.args.found.now (cc)

pub returns-clause-ok : goal.returns-clause-ok
returns-clause-ok c =
    let h = c.if-not-is_met.false in let g = c.is_met.ensures in
    on_ok_weaker c.resolve.result
    (λ (is : c.resolve.new.self ≡ _). rw is (passes_met c.args.arena.now c.args.trail.now.entries c.args.bounds.base
    c.args.bounds.level c.args.place c.args.found.now c.meet_reason.new.found
    c.are_entries.ensures.once c.requires.reasons c.requires.order c.requires.top (cc) c.in_ok-meet_reason.ensures.ok))
    c.resolve.ensures.ok
