use Rattle.std.proofs.Common.{◌≡◌, ◌∙◌, List, ℕ, Some, length, get_or, slice_get, sym, ap, arith}
use Rattle.std.proofs.lemmas.Option.{slice_get-get_or}
use Rattle.conflict_analysis.proofs.Closing.{closes_all, closes_more, few_resolved}
use Rattle.conflict_analysis.proofs.resolving.close_all.Goals as goal

pub loop-done-smaller : goal.loop-done-smaller
loop-done-smaller c =
    let few = few_resolved c.args.arena.now c.args.trail.now.entries c.args.bounds.base c.args.bounds.level c.args.at
    c.loop-done.found c.loop-done.invariant.closes.met in
    let long = ap length c.resolved.ensures in
    omega (arith, few, c.loop-done-test.true, long)

pub loop-done-preserved : goal.loop-done-preserved
loop-done-preserved c =
    let i = c.loop-done.invariant in
    let t = c.args.trail.now in
    let long = ap length c.resolved.ensures in
    let there : slice_get c.loop-done.found.resolved c.loop-done.done ≡ Some
    (get_or c.resolved-in-loop-done.result.now c.loop-done.done 0) =
    slice_get-get_or c.loop-done.found.resolved c.loop-done.done 0 (omega (arith, c.loop-done-test.true, long))
    ∙ ap (λ (ps : List ℕ). Some (get_or ps c.loop-done.done 0)) (sym c.resolved-in-loop-done.ensures) in
    record {
      long = c.close.ensures.long ∙ i.long;
      closes = closes_more c.args.arena.now t.entries c.args.bounds.base c.args.bounds.level c.args.at
          c.loop-done.done _ c.args.found.now c.loop-done.found c.close.new.found i.closes there c.in_ok-close.ensures.ok;
    }

pub returns-clause-ok : goal.returns-clause-ok
returns-clause-ok c =
    let long = ap length c.resolved.ensures in
    closes_all c.args.arena.now c.args.trail.now.entries c.args.bounds.base c.args.bounds.level c.args.at
    c.loop-done.done c.args.found.now c.loop-done.found c.loop-done.invariant.closes
    (omega (arith, c.loop-done-test.false, long))
