use Rattle.match_premises.proofs.Folds.{heads_are}
use Rattle.match_premises.proofs.Matching.{premises_make_matches}
use Rattle.match_premises.proofs.laws.premises_make_matches.Goals as goal

pub returns-clause-atoms : goal.returns-clause-atoms
returns-clause-atoms c = premises_make_matches

pub returns-clause-heads : goal.returns-clause-heads
returns-clause-heads c = heads_are
