use Rattle.std.proofs.lemmas.Result.{on_ok_weaker}
use Rattle.conflict_analysis.proofs.Closing.{closes_done, closes_met, has_entry, has_reason}
use Rattle.conflict_analysis.proofs.resolving.close.Goals as goal

pub returns-then-at-place-clause-ok : goal.returns-then-at-place-clause-ok
returns-then-at-place-clause-ok c =
    closes_done c.args.arena.now c.args.trail.now.entries c.args.bounds.base c.args.bounds.level c.args.at
    c.args.place c.args.found.now c.requires.met c.requires.resolved c.requires.above c.if-at-place.true

pub meet_reason-requires-clause-there : goal.meet_reason-requires-clause-there
meet_reason-requires-clause-there c =
    has_entry c.args.arena.now c.args.trail.now.entries c.args.found.now.seen c.args.bounds.level c.args.place
    (c.requires.met.resolved c.args.place c.requires.resolved).reason

pub meet_reason-requires-clause-reasoned : goal.meet_reason-requires-clause-reasoned
meet_reason-requires-clause-reasoned c =
    has_reason c.args.arena.now c.args.trail.now.entries c.args.found.now.seen c.args.bounds.level c.args.place
    (c.requires.met.resolved c.args.place c.requires.resolved).reason

pub returns-clause-ok : goal.returns-clause-ok
returns-clause-ok c =
    on_ok_weaker c.meet_reason.result
    (λ r. closes_met c.args.arena.now c.args.trail.now.entries c.args.bounds.base c.args.bounds.level c.args.at
    c.args.place c.args.found.now c.meet_reason.new.found c.requires.reasons c.requires.order
    c.requires.above c.requires.met c.requires.resolved r)
    c.meet_reason.ensures.ok
