use Rattle.std.proofs.Common.{◌≡◌, take}
use Rattle.spec_duplicates.proofs.relation.copied_attrs.Given as goal

abbrev pub invariant-loop-attr : goal.invariant-loop-attr
invariant-loop-attr l = l.list ≡ take l.attr-index l.attrs
