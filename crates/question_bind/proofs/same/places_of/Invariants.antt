-- The places so far, in front of those that are left, are the whole.
use Rattle.order_bind.proofs.OrderLemmas.{Resolves}
use Rattle.question_bind.specs.Steps.{named_in}
use Rattle.question_bind.proofs.same.places_of.Given as goal

abbrev pub invariant-loop-name : goal.invariant-loop-name
invariant-loop-name l = Resolves (named_in l.names) l.named l.name-index l.places
