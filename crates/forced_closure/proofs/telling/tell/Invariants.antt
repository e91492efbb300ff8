use Rattle.forced_closure.specs.Kept.{ArePairsOfCells}
use Rattle.forced_closure.proofs.telling.tell.Given as goal

abbrev pub invariant-loop-cell : goal.invariant-loop-cell
invariant-loop-cell l = ArePairsOfCells l.subject l.origins l.derived l.pairs.items l.cell-index
