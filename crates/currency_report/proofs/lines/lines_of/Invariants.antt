use Rattle.std.proofs.Common.{◌≡◌, map, take}
use Rattle.currency_report.proofs.lines.lines_of.Given as goal

abbrev pub invariant-loop-tree : goal.invariant-loop-tree
invariant-loop-tree g l = l.lines ≡ map g.T.OnLine.line_of (take l.tree-index l.trees)
