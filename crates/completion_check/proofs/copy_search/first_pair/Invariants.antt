use Rattle.completion_check.proofs.CopySearch.{NonePairBelow}
use Rattle.completion_check.proofs.copy_search.first_pair.Given as goal

abbrev pub invariant-loop-at : goal.invariant-loop-at
invariant-loop-at l = NonePairBelow l.trial l.place l.at
