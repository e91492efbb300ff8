use Rattle.std.proofs.Common.{subst}
use Rattle.match_candidates.specs.Found.{Bounded}
use Rattle.match_candidates.specs.Matches.{MatchesAscend}
use Rattle.match_candidates.proofs.Ascending.{sorted_ascend}
use Rattle.match_candidates.proofs.match_set.MatchSet.into_list.Goals as goal

pub returns-in_err-list-clause-ascend : goal.returns-in_err-list-clause-ascend
returns-in_err-list-clause-ascend c =
    subst (λ (s : Bounded). MatchesAscend s.matches) c.self.view_is
    (sorted_ascend c.self.inside.held.keys c.len-count.ensures.ordered)

pub returns-in_err-push-clause-ascend : goal.returns-in_err-push-clause-ascend
returns-in_err-push-clause-ascend c =
    subst (λ (s : Bounded). MatchesAscend s.matches) c.self.view_is
    (sorted_ascend c.self.inside.held.keys c.len-count.ensures.ordered)

pub returns-clause-ascend : goal.returns-clause-ascend
returns-clause-ascend c =
    subst (λ (s : Bounded). MatchesAscend s.matches) c.self.view_is
    (sorted_ascend c.self.inside.held.keys c.len-count.ensures.ordered)
