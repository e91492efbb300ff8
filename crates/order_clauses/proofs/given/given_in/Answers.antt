use Rattle.std.proofs.Common.{◌∙◌, map}
use Rattle.std.specs.Map.Iter.{deref}
use Rattle.std.proofs.lemmas.List.{map_push}
use Rattle.std.proofs.lemmas.Map.Iter.{iter_turn, iter_end}
use Rattle.order_clauses.specs.Listing.{given_label}
use Rattle.order_clauses.proofs.Adding.{adds_none, flat_push}
use Rattle.order_clauses.proofs.GivenPairs.{given_pair, given_clause, given_all}
use Rattle.order_clauses.proofs.LabelsAre.{once_given_at}
use Rattle.order_clauses.proofs.Saying.{contains_at}
use Rattle.order_clauses.proofs.given.given_in.Goals as goal

pub loop-pair-init : goal.loop-pair-init
loop-pair-init c = adds_none c.args.sayings.now c.args.steps.now

pub before-lit-requires : goal.before-lit-requires
before-lit-requires c =
    let given = c.relation.result.now.given in
    let turn = iter_turn deref given c.loop-pair.yielded c.into_iter-pair-iterator.result c.loop-pair.pair-iterator
    c.next.new.self c.next.result (c.into_iter-pair-iterator.ensures.into_iter_gives
    ∙ c.iter-pair-items.ensures.all) c.loop-pair.yielded_by
    c.in-Some.pair c.in-Some.is c.next.ensures.steps in
    given_pair c.args.sayings.now.spec c.args.rel c.relation.result.now c.in-Some.pair.now c.relation.ensures.value
    c.relation.ensures.facts
    (contains_at given _ c.in-Some.pair.now turn.1)

pub push_distinct-requires-clause-clause : goal.push_distinct-requires-clause-clause
push_distinct-requires-clause-clause c =
    let given = c.relation.result.now.given in
    let turn = iter_turn deref given c.loop-pair.yielded c.into_iter-pair-iterator.result c.loop-pair.pair-iterator
    c.next.new.self c.next.result (c.into_iter-pair-iterator.ensures.into_iter_gives
    ∙ c.iter-pair-items.ensures.all) c.loop-pair.yielded_by
    c.in-Some.pair c.in-Some.is c.next.ensures.steps in
    given_clause c.args.sayings.now c.args.rel c.relation.result.now c.in-Some.pair.now c.before-lit.result
    c.relation.ensures.value
    (contains_at given _ c.in-Some.pair.now turn.1) c.before-lit.ensures

pub loop-pair-preserved : goal.loop-pair-preserved
loop-pair-preserved c =
    rw (map_push deref c.loop-pair.yielded c.in-Some.pair)
    (flat_push c.args.sayings.now (given_label c.args.rel) (map deref c.loop-pair.yielded) c.in-Some.pair.now _ _ _
    c.loop-pair.invariant c.in_ok-push_distinct.ensures)

pub returns-clause-adds : goal.returns-clause-adds
returns-clause-adds c =
    let given = c.relation.result.now.given in
    let end = iter_end deref given c.loop-pair.yielded c.into_iter-pair-iterator.result c.loop-pair.pair-iterator
    c.next.new.self c.next.result (c.into_iter-pair-iterator.ensures.into_iter_gives
    ∙ c.iter-pair-items.ensures.all) c.loop-pair.yielded_by
    c.in-None.is c.next.ensures.steps in
    given_all c.args.sayings.now c.args.rel c.relation.result.now (map deref c.loop-pair.yielded) _ _
    c.relation.ensures.value end.0 c.loop-pair.invariant

pub returns-clause-once : goal.returns-clause-once
returns-clause-once c =
    once_given_at c.args.sayings.now.spec c.args.rel c.relation.result.now c.relation.ensures.value
    c.iter-pair-items.ensures.ascend
