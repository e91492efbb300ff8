use Rattle.std.proofs.Common.{◌≡◌, ◌++◌, Some, length, slice_get}
use Rattle.spec_model.specs.declared.relation.Relation.{Relation}
use Rattle.variable_parts.proofs.BlockKeys.{attrs_left}
use Rattle.variable_parts.proofs.keys.push_relation.Given as goal

abbrev pub invariant-loop-attr : goal.invariant-loop-attr
invariant-loop-attr l =
    (r : Relation) → slice_get l.source.spec.relations l.rel.0 ≡ Some r
    → l.keys.items ++ attrs_left l.source l.kind l.rel (length r.attrs) l.attr
    ≡ l.initial.keys.items ++ attrs_left l.source l.kind l.rel (length r.attrs) 0
