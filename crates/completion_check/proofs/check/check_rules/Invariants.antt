use Rattle.std.proofs.Common.{◌≡◌, ◌<◌, ℕ, [], Some, slice_get, slice_index_or}
use Rattle.denial_rules.specs.declared.rule.Rule.{Rule}
use Rattle.spec_model.specs.declared.relation.Relation.{Relation}
use Rattle.completion_check.specs.Breaks.{NoChoiceBreaks, tried}
use Rattle.completion_check.proofs.check.check_rules.Given as goal

abbrev pub invariant-loop-at : goal.invariant-loop-at
invariant-loop-at l = (k : ℕ) (rule : Rule) → k < l.at → slice_get l.rules k ≡ Some rule
    → (r : Relation) → slice_get l.relations rule.relation.0 ≡ Some r → NoChoiceBreaks
    (tried rule r (slice_index_or l.places rule.relation.0 []))
