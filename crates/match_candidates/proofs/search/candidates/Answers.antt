use Rattle.std.proofs.Common.{sym}
use Rattle.match_candidates.proofs.Asked.{for_candidates, no_candidates}
use Rattle.match_candidates.proofs.search.candidates.Goals as goal

pub returns-in-Some : goal.returns-in-Some
returns-in-Some c =
    for_candidates c.in-Some.table.now c.args.atom.now c.args.values.now c.args.tables.now c.candidates.result.now
    (sym c.in-Some.ensures)
    c.candidates.ensures

pub returns-in-None : goal.returns-in-None
returns-in-None c = no_candidates c.args.atom.now c.args.values.now c.args.tables.now c.in-None.ensures
