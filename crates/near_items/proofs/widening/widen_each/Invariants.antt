use Rattle.near_items.specs.Steps.{AreWidenedTo}
use Rattle.near_items.proofs.widening.widen_each.Given as goal

abbrev pub invariant-loop-place : goal.invariant-loop-place
invariant-loop-place l = record {
  widened : AreWidenedTo l.site.spec.now l.site.places.now l.site.question.now l.base l.narrow l.place l.start l.wide;
}
