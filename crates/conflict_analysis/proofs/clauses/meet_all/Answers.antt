use Rattle.std.proofs.Common.{◌≡◌, take}
use Rattle.std.proofs.lemmas.List.{take_more, take_all}
use Rattle.conflict_analysis.proofs.clauses.meet_all.Goals as goal

pub loop-lit-preserved : goal.loop-lit-preserved
loop-lit-preserved c =
    let lits = c.args.lits.now in
    rw (take_more lits c.loop-lit.lit-index (record { 0 = 0 }) c.loop-lit-test.true)
    (c.in_ok-meet_lit.ensures.ok (take c.loop-lit.lit-index lits) c.args.found.now c.loop-lit.invariant)

pub returns-clause-ok : goal.returns-clause-ok
returns-clause-ok c =
    let whole : take c.loop-lit.lit-index c.args.lits.now ≡ c.args.lits.now = take_all c.loop-lit.lit-index
    c.args.lits.now c.loop-lit-test.false in
    rw whole at c.loop-lit.invariant
