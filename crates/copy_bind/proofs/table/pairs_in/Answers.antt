-- One pair more.
use Rattle.std.proofs.Common.{◌∙◌, ◌++◌, ap}
use Rattle.copy_bind.specs.Copied.{pairs_from}
use Rattle.copy_bind.proofs.Listing.{pair_more, texts_more}
use Rattle.copy_bind.proofs.table.pairs_in.Goals as goal

pub loop-tuple-preserved : goal.loop-tuple-preserved
loop-tuple-preserved c = record {
  all = ap (λ ps. ps ++ pairs_from c.saturating_add-number.result c.next.new.self.rest.items) c.in_ok-push.ensures.ok
      ∙ pair_more c.loop-tuple.pairs c.loop-tuple.number c.saturating_add-number.result c.in-Some.tuple
      c.loop-tuple.tuple-iterator.rest.items
      c.next.new.self.rest.items c.pair_in.result _ c.in-Some.ensures.steps.0 c.pair_in.ensures
      c.saturating_add-number.ensures c.loop-tuple.invariant.all;
  texts = texts_more c.in-Some.tuple c.loop-tuple.tuple-iterator.rest.items c.next.new.self.rest.items
      c.in-Some.ensures.steps.0 c.loop-tuple.invariant.texts;
}
