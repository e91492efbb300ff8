use Rattle.std.proofs.Common.{◌≡◌, ◌<◌, ℕ, [], Some, slice_get, slice_index_or}
use Rattle.currency_base.specs.declared.ids.EntId.{EntId}
use Rattle.part_laws.specs.Parts.{rows_in, entities_in}
use Rattle.spec_parts.specs.Steps.{Grows, HasPairs}
use Rattle.spec_parts.proofs.given.put_given_of.Given as goal

abbrev pub invariant-loop-entity : goal.invariant-loop-entity
invariant-loop-entity l = record {
  grows : Grows l.whole l.places l.initial.part l.part;
  added : (k : ℕ) (ent : EntId) → k < l.entity-index → slice_get (entities_in l.places l.rel.0) k ≡ Some ent
      → HasPairs l.part.relations l.rel.0 (rows_in l.places l.rel.0)
      (slice_index_or (slice_index_or l.index l.rel.0 []) ent.0 []);
}
