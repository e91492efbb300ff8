use Rattle.spec_parts.proofs.PartWhole.{cuttable_places, rules_of_part, closed_copies, built_by_steps, on_ok_three}
use Rattle.spec_parts.proofs.parts.fill.Goals as goal

pub put_relations-requires-clause-cut : goal.put_relations-requires-clause-cut
put_relations-requires-clause-cut c = cuttable_places c.args.whole.now c.args.places.now c.is_specification.ensures
    c.requires.places

pub put_given-requires-clause-cut : goal.put_given-requires-clause-cut
put_given-requires-clause-cut c = cuttable_places c.args.whole.now c.args.places.now c.is_specification.ensures c.requires.places

pub put_rules-requires-clause-rules : goal.put_rules-requires-clause-rules
put_rules-requires-clause-rules c =
    rules_of_part c.args.whole.now c.args.places.now c.put_given.new.part.relations c.is_specification.ensures.rules
    c.in_ok-put_given.ensures.grows.so_far

pub put_copies-requires-clause-cut : goal.put_copies-requires-clause-cut
put_copies-requires-clause-cut c = cuttable_places c.args.whole.now c.args.places.now c.is_specification.ensures c.requires.places

pub put_copies-requires-clause-closed : goal.put_copies-requires-clause-closed
put_copies-requires-clause-closed c = closed_copies c.args.whole.now c.args.places.now c.is_specification.ensures
    c.requires.places

pub returns : goal.returns
returns c =
    let put = c.put_copies.ensures in
    on_ok_three _ _ _ _ c.put_copies.result put.so_far put.relations put.rules
    (λ so_far relations rules.
    built_by_steps c.args.whole.now c.args.places.now c.put_relations.new.part c.put_given.new.part c.put_rules.new.part
    c.put_copies.new.part
    c.in_ok-put_given.ensures.grows c.in_ok-put_given.ensures.given c.in_ok-put_rules.ensures so_far relations rules)
