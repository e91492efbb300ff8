use Rattle.std.proofs.Common.{◌∙◌, ◌+◌, ◌∷◌, ◌++◌, [], length, map, sym, ap, arith}
use Rattle.std.specs.Map.Iter.{deref}
use Rattle.std.proofs.lemmas.List.{length-append, length-map, map_push}
use Rattle.std.proofs.lemmas.Map.Iter.{iter_turn, iter_end, rest_more, rest_so_far}
use Rattle.spec_model.specs.Facts.{IsGivenPair}
use Rattle.kept_items.specs.Steps.{marked}
use Rattle.kept_items.proofs.Places.{item_has}
use Rattle.kept_items.proofs.Putting.{pair_more}
use Rattle.kept_items.proofs.relation.kept_given.Goals as goal

pub put_pair-requires-clause-earlier : goal.put_pair-requires-clause-earlier
put_pair-requires-clause-earlier c =
    let given = c.args.relation.now.given in
    let turn = iter_turn deref given c.loop-pair.yielded c.into_iter-pair-iterator.result
    c.loop-pair.pair-iterator c.next.new.self c.next.result
    (c.into_iter-pair-iterator.ensures.into_iter_gives ∙ c.iter-pair-items.ensures.all) c.loop-pair.yielded_by
    c.in-Some.pair c.in-Some.is c.next.ensures.steps in
    let place = length c.loop-pair.yielded in
    (item_has (IsGivenPair c.args.relation.now) given c.requires.pairs place c.in-Some.pair.now turn.1).earlier

pub put_pair-requires-clause-later : goal.put_pair-requires-clause-later
put_pair-requires-clause-later c =
    let given = c.args.relation.now.given in
    let turn = iter_turn deref given c.loop-pair.yielded c.into_iter-pair-iterator.result
    c.loop-pair.pair-iterator c.next.new.self c.next.result
    (c.into_iter-pair-iterator.ensures.into_iter_gives ∙ c.iter-pair-items.ensures.all) c.loop-pair.yielded_by
    c.in-Some.pair c.in-Some.is c.next.ensures.steps in
    let place = length c.loop-pair.yielded in
    (item_has (IsGivenPair c.args.relation.now) given c.requires.pairs place c.in-Some.pair.now turn.1).later

pub put_pair-requires-clause-marks : goal.put_pair-requires-clause-marks
put_pair-requires-clause-marks c =
    let given = c.args.relation.now.given in
    let turn = iter_turn deref given c.loop-pair.yielded c.into_iter-pair-iterator.result
    c.loop-pair.pair-iterator c.next.new.self c.next.result
    (c.into_iter-pair-iterator.ensures.into_iter_gives ∙ c.iter-pair-items.ensures.all) c.loop-pair.yielded_by
    c.in-Some.pair c.in-Some.is c.next.ensures.steps in
    omega (arith, turn.0, c.loop-pair.invariant.next, c.requires.marks)

pub loop-pair-preserved : goal.loop-pair-preserved
loop-pair-preserved c =
    let given = c.args.relation.now.given in
    let yielded = c.loop-pair.yielded in
    let front = map deref yielded in
    let pair = c.in-Some.pair in
    let starts = c.into_iter-pair-iterator.ensures.into_iter_gives ∙ c.iter-pair-items.ensures.all in
    let left = rest_more deref c.loop-pair.pair-iterator c.next.new.self c.next.result pair c.in-Some.is c.next.ensures.steps in
    let whole = sym starts ∙ rest_so_far deref yielded c.into_iter-pair-iterator.result c.loop-pair.pair-iterator
    c.loop-pair.yielded_by
    ∙ ap (λ l. front ++ l) left in
    let put = c.in_ok-put_pair.ensures in
    let many = length-append yielded (pair ∷ []) in
    let count = length-map yielded deref in
    record {
      next = omega (arith, put.next, c.loop-pair.invariant.next, many);
      kept = pair_more c.args.marks.now c.args.at.now c.loop-pair.at given front c.next.new.self pair.now c.loop-pair.kept
          c.put_pair.new.kept c.iter-pair-items.ensures.ascend whole (omega (arith, c.loop-pair.invariant.next, count))
          c.loop-pair.invariant.kept put.kept
          ∙ ap (marked c.args.marks.now c.args.at.now) (sym (map_push deref yielded pair));
    }

pub returns-clause-kept : goal.returns-clause-kept
returns-clause-kept c =
    let given = c.args.relation.now.given in
    let end = iter_end deref given c.loop-pair.yielded c.into_iter-pair-iterator.result
    c.loop-pair.pair-iterator c.next.new.self c.next.result
    (c.into_iter-pair-iterator.ensures.into_iter_gives ∙ c.iter-pair-items.ensures.all) c.loop-pair.yielded_by
    c.in-None.is c.next.ensures.steps in
    c.loop-pair.invariant.kept ∙ ap (marked c.args.marks.now c.args.at.now) end.0

pub returns-clause-next : goal.returns-clause-next
returns-clause-next c =
    let given = c.args.relation.now.given in
    let end = iter_end deref given c.loop-pair.yielded c.into_iter-pair-iterator.result
    c.loop-pair.pair-iterator c.next.new.self c.next.result
    (c.into_iter-pair-iterator.ensures.into_iter_gives ∙ c.iter-pair-items.ensures.all) c.loop-pair.yielded_by
    c.in-None.is c.next.ensures.steps in
    c.loop-pair.invariant.next ∙ ap (λ n. c.args.at.now + n) end.1
