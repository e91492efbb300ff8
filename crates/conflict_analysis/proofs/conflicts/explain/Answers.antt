use Rattle.std.proofs.Common.{subst, sym, arith}
use Rattle.std.proofs.lemmas.Result.{on_ok_weaker}
use Rattle.conflict_analysis.specs.Steps.{AreMet}
use Rattle.conflict_analysis.proofs.Beginnings.{explains}
use Rattle.conflict_analysis.proofs.Literals.{few_entries}
use Rattle.conflict_analysis.proofs.conflicts.explain.Goals as goal

pub complete-requires-clause-long : goal.complete-requires-clause-long
complete-requires-clause-long c =
    let few = few_entries c.args.trail.now c.are_entries.ensures in
    omega (arith, few, c.start.ensures.long, c.requires.long)

pub complete-requires-clause-met : goal.complete-requires-clause-met
complete-requires-clause-met c =
    subst (λ n. AreMet c.args.arena.now c.args.trail.now.entries c.args.bounds.base c.args.bounds.level n
    c.start.new.found) (sym c.requires.level) c.in_ok-start.ensures.ok.met

pub returns-clause-ok : goal.returns-clause-ok
returns-clause-ok c =
    on_ok_weaker c.complete.result
    (λ x. explains c.args.arena.now c.args.trail.now.entries c.args.bounds.base c.args.bounds.level
    c.args.bounds.level c.args.conflict.0 c.start.new.found c.complete.new.found c.in_ok-start.ensures.ok x)
    c.complete.ensures.ok
