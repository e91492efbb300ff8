use Rattle.std.proofs.Common.{◌≡◌, ◌++◌, drop}
use Rattle.trial_documents.specs.Lines.{further_cells}
use Rattle.trial_documents.proofs.text.Text.push_further_cells.Given as goal

abbrev pub invariant-loop-cell : goal.invariant-loop-cell
invariant-loop-cell l = l.self ++ further_cells (drop l.cell-index l.cells) ≡ l.initial.self ++ further_cells l.cells
