use Rattle.std.proofs.Common.{◌+◌, sym, ap, subst, arith}
use Rattle.std.proofs.lemmas.Result.{on_ok_weaker}
use Rattle.conflict_analysis.specs.Steps.{AreMet}
use Rattle.conflict_analysis.proofs.Beginnings.{has_low, leads}
use Rattle.conflict_analysis.proofs.Literals.{few_entries}
use Rattle.conflict_analysis.proofs.Starts.{reasoned_above}
use Rattle.conflict_analysis.proofs.conflicts.lead.Goals as goal

pub walk-requires-clause-long : goal.walk-requires-clause-long
walk-requires-clause-long c =
    let few = few_entries c.args.trail.now c.are_entries.ensures in
    omega (arith, few, c.start.ensures.long, c.requires.long)

pub walk-requires-clause-reasoned : goal.walk-requires-clause-reasoned
walk-requires-clause-reasoned c = reasoned_above c.args.trail.now c.args.bounds.level c.are_entries.ensures
    c.requires.deep c.requires.begins

pub walk-requires-clause-low : goal.walk-requires-clause-low
walk-requires-clause-low c =
    has_low c.args.arena.now c.args.trail.now c.args.bounds.base c.args.bounds.level c.args.conflict.0
    c.start.new.found c.requires.conflict c.requires.level c.requires.begins c.in_ok-start.ensures.ok

pub walk-requires-clause-few : goal.walk-requires-clause-few
walk-requires-clause-few c = let few = few_entries c.args.trail.now c.are_entries.ensures in omega
    (arith, few, c.are_entries.ensures.few)

pub overflow_add-at : goal.overflow_add-at
overflow_add-at c =
    let few = few_entries c.args.trail.now c.are_entries.ensures in
    omega (arith, few, c.are_entries.ensures.few, c.low-at.ensures, c.in_ok-walk.ensures.ok.low)

pub complete-requires-clause-long : goal.complete-requires-clause-long
complete-requires-clause-long c =
    let few = few_entries c.args.trail.now c.are_entries.ensures in
    omega (arith, few, c.start.ensures.long, c.walk.ensures.long, c.requires.long)

pub complete-requires-clause-above : goal.complete-requires-clause-above
complete-requires-clause-above c =
    let few = few_entries c.args.trail.now c.are_entries.ensures in
    let w = c.in_ok-walk.ensures.ok in
    let above = w.met.low_above (omega (arith, few, c.start.ensures.long, c.walk.ensures.long, c.requires.long, w.low)) in
    omega (arith, above, c.low-at.ensures)

pub complete-requires-clause-inside : goal.complete-requires-clause-inside
complete-requires-clause-inside c = omega (arith, c.low-at.ensures, c.in_ok-walk.ensures.ok.low)

pub complete-requires-clause-met : goal.complete-requires-clause-met
complete-requires-clause-met c =
    subst (λ n. AreMet c.args.arena.now c.args.trail.now.entries c.args.bounds.base c.args.bounds.level n
    c.walk.new.found) (ap (λ n. n + 1) (sym c.low-at.ensures)) c.in_ok-walk.ensures.ok.met

pub returns-clause-ok : goal.returns-clause-ok
returns-clause-ok c =
    let few = few_entries c.args.trail.now c.are_entries.ensures in
    on_ok_weaker c.complete.result
    (λ x. leads c.args.arena.now c.args.trail.now.entries c.args.bounds.base c.args.bounds.level c.args.conflict.0 _
    c.start.new.found c.walk.new.found c.complete.new.found c.in_ok-start.ensures.ok
    c.in_ok-walk.ensures.ok (ap (λ n. n + 1) c.low-at.ensures)
    (omega (arith, few, c.start.ensures.long, c.walk.ensures.long, c.requires.long, c.in_ok-walk.ensures.ok.low)) x)
    c.complete.ensures.ok
