use Rattle.std.proofs.Common.{◌≡◌, map, take}
use Rattle.spec_names.specs.Names.{names_of}
use Rattle.spec_names.proofs.names.SpecNames.of.Given as goal

abbrev pub invariant-loop-relation : goal.invariant-loop-relation
invariant-loop-relation l = l.each.items ≡ map names_of (take l.relation-index l.relation-items)
