use Rattle.std.proofs.Common.{◌≡◌, take}
use Rattle.completion_fill.specs.Alike.{AreAlike}
use Rattle.completion_fill.specs.Filled.{filled}
use Rattle.completion_fill.proofs.filling.fill.Given as goal

abbrev pub invariant-loop-rel : goal.invariant-loop-rel
invariant-loop-rel l = record {
  alike : AreAlike l.first l.completion;
  so_far : l.completion ≡ filled (take l.rel l.first) l.fn.completion;
}
