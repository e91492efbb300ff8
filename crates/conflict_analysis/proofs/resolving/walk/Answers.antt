use Rattle.std.proofs.Common.{◌≡◌, ◌+◌, subst, arith}
use Rattle.conflict_analysis.specs.Steps.{AreMet}
use Rattle.conflict_analysis.proofs.resolving.walk.Goals as goal

pub returns-clause-ok : goal.returns-clause-ok
returns-clause-ok c =
    let i = c.loop-at.invariant in
    let t = c.args.trail.now in
    let down : c.loop-at.at ≡ c.loop-at.found.low + 1 = omega (arith, c.loop-at-test.false, c.low.ensures, i.low) in
    record {
      still = i.still;
      low = omega (arith, i.low, i.below);
      met = subst (λ n. AreMet c.args.arena.now t.entries c.args.bounds.base c.args.bounds.level n c.loop-at.found) down i.met;
    }
