use Rattle.std.proofs.Common.{length, ap, arith}
use Rattle.completion_fill.proofs.Steps.{lists_none, lists_more}
use Rattle.completion_fill.proofs.filling.fill_attribute.Goals as goal

pub loop-ent-init : goal.loop-ent-init
loop-ent-init c = record {
  alike = c.requires.alike;
  so_far = lists_none c.args.completion.now c.args.rel.0 c.args.attr.0;
}

pub loop-ent-preserved : goal.loop-ent-preserved
loop-ent-preserved c = record {
  alike = c.fill_list.ensures.alike;
  so_far = lists_more c.args.first.now c.args.completion.now c.loop-ent.completion c.fill_list.new.completion
      c.args.rel.0 c.args.attr.0 c.loop-ent.ent
      c.requires.alike c.requires.rel c.requires.attr (omega (arith, ap length c.attribute.ensures))
      c.loop-ent.invariant.so_far c.in_ok-fill_list.ensures.filled;
}
