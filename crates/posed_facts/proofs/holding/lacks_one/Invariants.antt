-- The claims so far hold.
use Rattle.std.proofs.Common.{All, take}
use Rattle.posed_facts.specs.Facts.{IsCurrent}
use Rattle.posed_facts.proofs.holding.lacks_one.Given as goal

abbrev pub invariant-loop-claim : goal.invariant-loop-claim
invariant-loop-claim l = All (λ p. IsCurrent l.spec.relations p l.completion) (take l.claim-index l.claims)
