use Rattle.std.proofs.Common.{length, ap, arith}
use Rattle.part_join.proofs.Setting.{rest_none, rest_more, relation_all}
use Rattle.part_join.proofs.joining.put_relation.Goals as goal

pub loop-attr-init : goal.loop-attr-init
loop-attr-init c = record { put = c.requires.so_far; rest = rest_none c.args.places.now c.args.completion.now }

pub loop-attr-preserved : goal.loop-attr-preserved
loop-attr-preserved c = record {
  put = c.in_ok-put_attribute.ensures.put;
  rest = rest_more c.args.places.now c.args.completion.now c.loop-attr.completion c.put_attribute.new.completion
      c.loop-attr.invariant.rest
      c.put_attribute.ensures.rest;
}

pub returns-clause-put : goal.returns-clause-put
returns-clause-put c =
    relation_all c.args.places.now c.args.narrow.now c.loop-attr.completion c.args.rel.0 c.loop-attr.attr
    (omega (arith, ap length c.relation.ensures)) c.loop-attr.invariant.put
