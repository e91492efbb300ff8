use Rattle.std.proofs.Common.{sym}
use Rattle.std.proofs.lemmas.Option.{slice_get_within}
use Rattle.conflict_analysis.proofs.Passing.{lits_assigned, reasoned_entry}
use Rattle.conflict_analysis.proofs.trial.Trial.enter.Goals as goal

pub lits-requires : goal.lits-requires
lits-requires c =
    let e = reasoned_entry c.args.trail.now.entries c.args.place c.in-Some.clause.0 (sym c.in-Some.ensures) in
    let r = c.requires.reasons c.args.place e.0 c.in-Some.clause.0 e.1 e.2 in
    slice_get_within c.args.arena.now.clauses c.in-Some.clause.0 r.lits r.is_clause

pub look_at-requires-clause-assigned : goal.look_at-requires-clause-assigned
look_at-requires-clause-assigned c =
    lits_assigned c.args.arena.now c.args.trail.now c.requires.reasons c.args.place c.in-Some.clause.0
    (sym c.in-Some.ensures) c.lits.result.now c.lits.ensures
