use Rattle.std.proofs.Common.{◌≡◌, Some, slice_get}
use Rattle.spec_model.specs.declared.relation.Relation.{Relation}
use Rattle.current_claims.specs.Listed.{AddsLastOf}
use Rattle.current_claims.proofs.claims.push_last_rows.Given as goal

abbrev pub invariant-loop-attr : goal.invariant-loop-attr
invariant-loop-attr l =
    (r : Relation) → slice_get l.spec.relations l.rel.0 ≡ Some r → AddsLastOf r l.completion l.rel l.ent l.attr
    l.initial.rows l.rows
