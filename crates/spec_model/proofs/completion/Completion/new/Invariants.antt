use Rattle.std.proofs.Common.{◌≡◌, take}
use Rattle.spec_model.specs.Blank.{blank_of}
use Rattle.spec_model.proofs.completion.Completion.new.Given as goal

abbrev pub invariant-loop-relation : goal.invariant-loop-relation
invariant-loop-relation l = l.rankings ≡ blank_of (take l.relation-index l.relation-items)
