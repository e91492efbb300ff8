use Rattle.std.proofs.Common.{◌≡◌, take}
use Rattle.spec_duplicates.proofs.relation.copied_names.Given as goal

abbrev pub invariant-loop-name : goal.invariant-loop-name
invariant-loop-name l = l.list ≡ take l.name-index l.names
