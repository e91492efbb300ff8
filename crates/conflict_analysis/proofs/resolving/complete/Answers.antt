use Rattle.conflict_analysis.proofs.Completing.{completes, kept_inside}
use Rattle.conflict_analysis.proofs.resolving.complete.Goals as goal

pub minimize-requires-clause-kept : goal.minimize-requires-clause-kept
minimize-requires-clause-kept c = kept_inside c.args.arena.now c.args.trail.now.entries c.args.bounds.base
    c.args.bounds.level c.args.at c.args.found.now c.requires.met c.requires.above c.requires.inside

pub close_all-requires-clause-met : goal.close_all-requires-clause-met
close_all-requires-clause-met c = c.in_ok-minimize.ensures.ok.met c.args.at c.requires.met

pub returns-clause-ok : goal.returns-clause-ok
returns-clause-ok c =
    completes c.args.arena.now c.args.trail.now.entries c.args.bounds.base c.args.bounds.level c.args.at
    c.args.found.now c.minimize.new.found c.close_all.new.found c.sort.new.self c.in_ok-minimize.ensures.ok
    c.in_ok-minimize.ensures.kept c.in_ok-close_all.ensures.ok c.sort.ensures
