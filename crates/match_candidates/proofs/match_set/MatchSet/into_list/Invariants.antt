use Rattle.std.proofs.Common.{◌≡◌}
use Rattle.match_candidates.proofs.match_set.MatchSet.into_list.Given as goal

abbrev pub invariant-loop-next : goal.invariant-loop-next
invariant-loop-next l = l.list.items ≡ l.yielded
