-- What is told so far, and the tables that are due, of the entries that are done.
use Rattle.std.proofs.Common.{◌≡◌, ◌≤◌, drop}
use Rattle.spec_names.specs.Names.{all_names_of}
use Rattle.session_command.specs.Sessions.{session_said}
use Rattle.session_command.proofs.Going.{DueSoFar, SoFar}
use Rattle.session_command.proofs.running.run_entries.Given as goal

abbrev pub invariant-loop-entry : goal.invariant-loop-entry
invariant-loop-entry g l = record {
  kept : g.S.Shelf.texts l.shelf ≡ g.S.Shelf.texts l.fn.shelf;
  later : g.S.Shelf.faults l.fn.shelf ≤ g.S.Shelf.faults l.shelf;
  named : l.names ≡ all_names_of l.session.spec;
  so_far : SoFar (g.S.Shelf.texts l.fn.shelf) (session_said l.asked) l.fn.session l.entries l.fn.into l.session
      (drop l.entry-index l.entries) l.into;
  tables : DueSoFar (g.S.Shelf.texts l.fn.shelf) (session_said l.asked) l.fn.session l.entries l.session
      (drop l.entry-index l.entries);
}
