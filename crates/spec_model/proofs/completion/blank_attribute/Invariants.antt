use Rattle.std.proofs.Common.{◌≡◌}
use Rattle.spec_model.specs.Blank.{blank_lists}
use Rattle.spec_model.proofs.completion.blank_attribute.Given as goal

abbrev pub invariant-loop : goal.invariant-loop
invariant-loop l = l.lists ≡ blank_lists l.counter
