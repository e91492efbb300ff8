use Rattle.std.proofs.Common.{◌≡◌, take}
use Rattle.spec_model.specs.Completion.{lists_of}
use Rattle.completion_fill.specs.Alike.{AreAlike, with_lists}
use Rattle.completion_fill.specs.Filled.{merged, list_or}
use Rattle.completion_fill.proofs.filling.fill_attribute.Given as goal

abbrev pub invariant-loop-ent : goal.invariant-loop-ent
invariant-loop-ent l = record {
  alike : AreAlike l.first l.completion;
  so_far : l.completion ≡ with_lists l.fn.completion l.rel.0 l.attr.0
      (merged list_or (take l.ent (lists_of l.first l.rel.0 l.attr.0)) (lists_of l.fn.completion l.rel.0 l.attr.0));
}
