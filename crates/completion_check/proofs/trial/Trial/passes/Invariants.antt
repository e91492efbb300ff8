use Rattle.std.proofs.Common.{◌≡◌, ◌<◌, ℕ, true, Some, slice_get}
use Rattle.denial_rules.specs.declared.rule.Predicate.{Predicate}
use Rattle.completion_check.specs.Tests.{predicate_test, last_var}
use Rattle.completion_check.proofs.trial.Trial.passes.Given as goal

abbrev pub invariant-loop-predicate : goal.invariant-loop-predicate
invariant-loop-predicate l = (k : ℕ) (p : Predicate) → k < l.predicate-index → slice_get l.self.rule.predicates k ≡
    Some p → last_var p ≡ l.var
    → predicate_test l.self.table l.self.places l.rows p ≡ true
