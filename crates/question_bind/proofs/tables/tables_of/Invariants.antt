-- The tables so far, in front of those that are left, are the whole.
use Rattle.std.proofs.Common.{◌≡◌, ◌≤◌, length, drop}
use Rattle.question_bind.proofs.TablesRead.{TablesSoFar}
use Rattle.question_bind.proofs.tables.tables_of.Given as goal

abbrev pub invariant-loop-tree : goal.invariant-loop-tree
invariant-loop-tree g l = record {
  kept : g.S.Shelf.texts l.shelf ≡ g.S.Shelf.texts l.fn.shelf;
  later : g.S.Shelf.faults l.fn.shelf ≤ g.S.Shelf.faults l.shelf;
  count : length l.tables ≡ l.tree-index;
  so_far : TablesSoFar (g.S.Shelf.texts l.fn.shelf) (drop l.tree-index l.trees) l.trees l.tables;
}
