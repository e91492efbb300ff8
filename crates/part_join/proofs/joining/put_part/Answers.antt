use Rattle.part_join.proofs.Fitting.{to_put, has_room}
use Rattle.part_join.proofs.Setting.{put_none, rest_none, rest_more}
use Rattle.part_join.proofs.joining.put_part.Goals as goal

pub loop-rel-init : goal.loop-rel-init
loop-rel-init c =
    let n = c.args.places.now in
    let narrow = c.args.narrow.now in
    let old = c.args.completion.now in
    let room = has_room c.args.spec.now.relations c.requires.places.0 n narrow old c.requires.places.1
    c.requires.narrow c.requires.shape in
    record { put = put_none n narrow old room; rest = rest_none n old }

pub put_relation-requires-clause-to_put : goal.put_relation-requires-clause-to_put
put_relation-requires-clause-to_put c =
    to_put c.args.spec.now.relations c.requires.places.0 c.args.places.now c.args.narrow.now c.relations-rel-end.ensures.facts
    c.requires.places.1 c.requires.narrow

pub loop-rel-preserved : goal.loop-rel-preserved
loop-rel-preserved c = record {
  put = c.in_ok-put_relation.ensures.put;
  rest = rest_more c.args.places.now c.args.completion.now c.loop-rel.completion c.put_relation.new.completion
      c.loop-rel.invariant.rest
      c.put_relation.ensures.rest;
}
