use Rattle.std.proofs.Common.{sym}
use Rattle.match_candidates.proofs.RowsThere.{rows_there}
use Rattle.match_candidates.proofs.claims.atom_claims.Goals as goal

pub atom_premises-requires-clause-members : goal.atom_premises-requires-clause-members
atom_premises-requires-clause-members c =
    rows_there c.args.relations.now c.args.rows.now c.args.atom.now.relation.0 c.index-rows-atom.result c.in-Some.relation.now
    c.requires.indexed c.index-rows-atom.is (sym c.in-Some.ensures)
