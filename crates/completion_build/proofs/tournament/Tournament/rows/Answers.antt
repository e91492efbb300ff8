use Rattle.std.proofs.Common.{subst}
use Rattle.completion_build.specs.Contests.{IsContest}
use Rattle.completion_build.proofs.Decisions.{is_decided, rows_once}
use Rattle.completion_build.proofs.tournament.Tournament.rows.Goals as goal

pub returns-clause-decided : goal.returns-clause-decided
returns-clause-decided c =
    is_decided c.pairs_are_decided.ensures.decided c.pairs_are_decided.ensures.exclude c.args.self.now
    (subst IsContest c.self.view_is c.self.invariant)

pub returns-clause-once : goal.returns-clause-once
returns-clause-once c = rows_once c.args.self.now (subst IsContest c.self.view_is c.self.invariant)
