use Rattle.std.proofs.Common.{◌≡◌, ◌<◌, ℕ, Some, slice_get}
use Rattle.spec_model.specs.declared.relation.Relation.{Relation}
use Rattle.minimal_items.specs.Trials.{Ascends}
use Rattle.minimal_items.proofs.laws.items_stand_once.Given as goal

abbrev pub invariant-loop-relation : goal.invariant-loop-relation
invariant-loop-relation l = record {
  ascend : (rel : ℕ) (r : Relation) → rel < l.relation-index → slice_get l.spec.relations rel ≡ Some r → Ascends r;
}
