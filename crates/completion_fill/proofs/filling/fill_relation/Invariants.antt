use Rattle.std.proofs.Common.{◌≡◌, [], take, slice_index_or, slice_set}
use Rattle.completion_fill.specs.Alike.{AreAlike}
use Rattle.completion_fill.specs.Filled.{merged, list_or}
use Rattle.completion_fill.proofs.filling.fill_relation.Given as goal

abbrev pub invariant-loop-attr : goal.invariant-loop-attr
invariant-loop-attr l = record {
  alike : AreAlike l.first l.completion;
  so_far : l.completion ≡ slice_set l.fn.completion l.rel.0
      (merged (merged list_or) (take l.attr (slice_index_or l.first l.rel.0 [])) (slice_index_or l.fn.completion l.rel.0 []));
}
