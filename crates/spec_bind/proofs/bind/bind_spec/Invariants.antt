use Rattle.std.proofs.Common.{◌≡◌, ◌≤◌, ℕ, List, drop, Result, IfSome}
use Rattle.spec_model.specs.Spec.{Spec}
use Rattle.bind_faults.specs.declared.fault.BindFault.{BindFault}
use Rattle.bound_spec.specs.Growth.{nothing}
use Rattle.spec_bind.specs.Bound.{IsBound, TableDue}
use Rattle.spec_bind.proofs.bind.bind_spec.Given as goal

abbrev pub invariant-loop-statement : goal.invariant-loop-statement
invariant-loop-statement g l = record {
  kept : g.S.Shelf.texts l.shelf ≡ g.S.Shelf.texts l.fn.shelf;
  later : g.S.Shelf.faults l.fn.shelf ≤ g.S.Shelf.faults l.shelf;
  so_far : IfSome (g.S.Shelf.texts l.fn.shelf) (λ told. (outcome : Result Spec BindFault)
      → IsBound told l.bound (drop l.statement-index l.statement-items) outcome → IsBound told nothing
      l.fn.tree.statements outcome);
  tables : IfSome (g.S.Shelf.texts l.fn.shelf) (λ told. (table : List ℕ)
      → TableDue told l.bound (drop l.statement-index l.statement-items) table → TableDue told nothing
      l.fn.tree.statements table);
}
