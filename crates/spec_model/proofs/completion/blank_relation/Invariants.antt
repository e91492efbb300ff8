use Rattle.std.proofs.Common.{◌≡◌}
use Rattle.spec_model.specs.Blank.{blank_rankings}
use Rattle.spec_model.proofs.completion.blank_relation.Given as goal

abbrev pub invariant-loop : goal.invariant-loop
invariant-loop l = l.lists ≡ blank_rankings l.counter l.entities
