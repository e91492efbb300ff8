use Rattle.std.proofs.Common.{length, ap, arith}
use Rattle.completion_fill.proofs.Steps.{relation_none, relation_more}
use Rattle.completion_fill.proofs.filling.fill_relation.Goals as goal

pub loop-attr-init : goal.loop-attr-init
loop-attr-init c = record {
  alike = c.requires.alike;
  so_far = relation_none c.args.completion.now c.args.rel.0;
}

pub loop-attr-preserved : goal.loop-attr-preserved
loop-attr-preserved c = record {
  alike = c.fill_attribute.ensures.alike;
  so_far = relation_more c.args.first.now c.args.completion.now c.loop-attr.completion
      c.fill_attribute.new.completion c.args.rel.0 c.loop-attr.attr
      c.requires.alike c.requires.rel (omega (arith, ap length c.relation.ensures)) c.loop-attr.invariant.so_far
      c.in_ok-fill_attribute.ensures.filled;
}
