use Rattle.std.proofs.Common.{◌∙◌, length, false, ap, subst, arith}
use Rattle.std.proofs.lemmas.List.{length-replicate}
use Rattle.std.proofs.lemmas.Result.{on_ok_weaker}
use Rattle.conflict_analysis.specs.Steps.{MeetsAll, State}
use Rattle.conflict_analysis.proofs.Beginnings.{conflict_assigned, starts}
use Rattle.conflict_analysis.proofs.Literals.{few_entries}
use Rattle.conflict_analysis.proofs.conflicts.start.Goals as goal

pub meet_all-requires-clause-long : goal.meet_all-requires-clause-long
meet_all-requires-clause-long c =
    let few = few_entries c.args.trail.now c.are_entries.ensures in
    let long = ap (λ (s : State). length s.seen) c.clear.ensures ∙ length-replicate (length c.args.found.now.seen) false in
    omega (arith, few, long, c.requires.long)

pub meet_all-requires-clause-assigned : goal.meet_all-requires-clause-assigned
meet_all-requires-clause-assigned c = conflict_assigned c.args.arena.now c.args.trail.now c.args.conflict.0
    c.requires.conflict c.lits.result.now c.lits.ensures

pub returns-clause-ok : goal.returns-clause-ok
returns-clause-ok c =
    let t = c.args.trail.now in
    let n = length c.args.found.now.seen in
    on_ok_weaker c.meet_all.result
    (λ m. starts c.args.arena.now t c.args.bounds.base c.args.bounds.level c.args.conflict.0 n c.lits.result.now
    c.meet_all.new.found c.requires.reasons c.requires.order
    (omega (arith, c.are_entries.ensures.few, c.requires.long)) c.lits.ensures
    (subst (λ (s : State). MeetsAll t.entries c.args.bounds.base c.args.bounds.level c.lits.result.now s
    c.meet_all.new.found) c.clear.ensures m))
    c.meet_all.ensures.ok
