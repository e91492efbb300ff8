-- The premises so far, in front of what the rest says, are the whole. Each predicate gives at most one.
use Rattle.std.proofs.Common.{◌≡◌, ◌≤◌, length, drop}
use Rattle.denial_rules.specs.Instances.{premises_of}
use Rattle.denial_rules.proofs.Walk.{with_front}
use Rattle.denial_rules.proofs.instance.premises_of.Given as goal

abbrev pub invariant-loop-predicate : goal.invariant-loop-predicate
invariant-loop-predicate l = record {
  so_far : with_front l.premises (premises_of l.rows (drop l.predicate-index l.predicates)) ≡ premises_of l.rows l.predicates;
  few : length l.premises ≤ l.predicate-index;
}
