use Rattle.std.proofs.Common.{◌≡◌, take}
use Rattle.spec_duplicates.proofs.rule.copied_predicates.Given as goal

abbrev pub invariant-loop-predicate : goal.invariant-loop-predicate
invariant-loop-predicate l = l.list ≡ take l.predicate-index l.predicates
