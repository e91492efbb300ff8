use Rattle.watch_propagate.proofs.RestFacts.{rest_at_end, rest_at_starts}
use Rattle.watch_propagate.proofs.laws.watched_are_at_rest.Goals as goal

pub returns-clause-at_starts : goal.returns-clause-at_starts
returns-clause-at_starts c = rest_at_starts

pub returns-clause-at_end : goal.returns-clause-at_end
returns-clause-at_end c = rest_at_end
