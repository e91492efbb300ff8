use Rattle.std.proofs.Common.{◌≡◌, ◌++◌, drop, map}
use Rattle.relation_bind.specs.Relations.{attr_of}
use Rattle.relation_bind.proofs.relation.declared_attrs.Given as goal

abbrev pub invariant-loop-attr : goal.invariant-loop-attr
invariant-loop-attr l = l.list ++ map attr_of (drop l.attr-index l.attrs) ≡ map attr_of l.attrs
