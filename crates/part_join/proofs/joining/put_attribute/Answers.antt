use Rattle.std.proofs.Common.{length, ap, arith}
use Rattle.part_join.proofs.Setting.{rest_none, rest_more, attribute_all}
use Rattle.part_join.proofs.joining.put_attribute.Goals as goal

pub loop-place-init : goal.loop-place-init
loop-place-init c = record { put = c.requires.so_far; rest = rest_none c.args.places.now c.args.completion.now }

pub loop-place-preserved : goal.loop-place-preserved
loop-place-preserved c = record {
  put = c.in_ok-put_list.ensures.put;
  rest = rest_more c.args.places.now c.args.completion.now c.loop-place.completion c.put_list.new.completion
      c.loop-place.invariant.rest
      c.put_list.ensures.rest;
}

pub returns-clause-put : goal.returns-clause-put
returns-clause-put c =
    attribute_all c.args.places.now c.args.narrow.now c.loop-place.completion c.args.rel.0 c.args.attr.0 c.loop-place.place
    (omega (arith, ap length c.entities-place-end.ensures)) c.loop-place.invariant.put
