-- What is asked about so far, and what is left, are asked about as all parts are.
use Rattle.std.proofs.Common.{◌≡◌, ◌≤◌, drop, All}
use Rattle.spec_model.specs.Questions.{IsAskedPair}
use Rattle.question_bind.proofs.GroupSteps.{AskedSoFar, DueSoFar}
use Rattle.question_bind.proofs.certain.ask_each.Given as goal

abbrev pub invariant-loop-tree : goal.invariant-loop-tree
invariant-loop-tree g l = record {
  kept : g.S.Shelf.texts l.shelf ≡ g.S.Shelf.texts l.fn.shelf;
  later : g.S.Shelf.faults l.fn.shelf ≤ g.S.Shelf.faults l.shelf;
  fits : All (IsAskedPair l.spec.relations) l.asked;
  so_far : AskedSoFar (g.S.Shelf.texts l.fn.shelf) l.spec.relations l.asked (drop l.tree-index l.trees) l.trees;
  tables : DueSoFar (g.S.Shelf.texts l.fn.shelf) l.spec.relations l.asked (drop l.tree-index l.trees) l.trees;
}
