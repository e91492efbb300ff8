use Rattle.std.proofs.Common.{◌≡◌, [], ◌++◌, drop}
use Rattle.relation_bind.specs.Relations.{repeated_attr}
use Rattle.relation_bind.specs.Steps.{names_of_attrs}
use Rattle.relation_bind.proofs.head.attribute_names.Given as goal

abbrev pub invariant-loop-attr : goal.invariant-loop-attr
invariant-loop-attr l = record {
  seen : repeated_attr l.names (drop l.attr-index l.attrs) ≡ repeated_attr [] l.attrs;
  all : l.names ++ names_of_attrs (drop l.attr-index l.attrs) ≡ names_of_attrs l.attrs;
}
