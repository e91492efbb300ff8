use Rattle.std.proofs.Common.{◌≡◌, ◌<◌, Some, length, slice_get, rules, arith, ap}
use Rattle.std.specs.Map.Iter.{deref}
use Rattle.std.proofs.lemmas.List.{length_push}
use Rattle.std.proofs.lemmas.Map.Iter.{iter_turn, iter_end}
use Rattle.std.proofs.lemmas.Option.{slice_get_within}
use Rattle.spec_model.specs.Facts.{IsGivenPair}
use Rattle.completion_check.specs.Relations.{IsInOrder}
use Rattle.completion_check.proofs.Kept.{all_at, each_at_more}
use Rattle.completion_check.proofs.relations.RelationPlaces.broken.Goals as goal
use Rattle.completion_check.proofs.relations.RelationPlaces.broken.Goals.{In-Some}

-- the pair at hand is the next of the given pairs
at_turn : (c : In-Some) → (length c.loop-pair.yielded < length c.args.relation.now.given)
    × (slice_get c.args.relation.now.given (length c.loop-pair.yielded) ≡ Some c.in-Some.pair.now)
at_turn c = search (rules, iter_turn)

is_pair : (c : In-Some) → IsGivenPair c.args.relation.now c.in-Some.pair.now
is_pair c =
    all_at (IsGivenPair c.args.relation.now) c.args.relation.now.given (length c.loop-pair.yielded)
    c.in-Some.pair.now c.requires.facts.given (at_turn c).1

pub attr-places-requires : goal.attr-places-requires
attr-places-requires c =
    let is = is_pair (goal.at.attr-places-requires c).In-Some in
    omega (arith, is.attr, c.requires.room.per_attr)

pub of-requires : goal.of-requires
of-requires c =
    let is = is_pair (goal.at.of-requires c).In-Some in
    omega (arith, is.later, ap length c.attr-places.ensures, c.requires.room.per_row c.in-Some.pair.now.attr.0 is.attr)

pub of-requires-in-loop-pair : goal.of-requires-in-loop-pair
of-requires-in-loop-pair c =
    let is = is_pair (goal.at.of-requires-in-loop-pair c).In-Some in
    omega (arith, is.earlier, ap length c.attr-places.ensures, c.requires.room.per_row c.in-Some.pair.now.attr.0 is.attr)

pub returns-then-of-clause-some : goal.returns-then-of-clause-some
returns-then-of-clause-some c =
    let turn = at_turn (goal.at.returns-then-of-clause-some c).In-Some in
    let later = rw c.attr-places.ensures at c.of.ensures in
    let earlier = rw c.attr-places.ensures at c.of-in-loop-pair.ensures in
    record {
      place = length c.loop-pair.yielded;
      is_pair = turn.1;
      broken = λ below. absurd (omega (arith, below, later, earlier));
      earlier = c.loop-pair.invariant;
    }

pub loop-pair-preserved : goal.loop-pair-preserved
loop-pair-preserved c = λ k p below at'.
    let turn = at_turn (goal.at.loop-pair-preserved c).In-Some in
    let pair = c.in-Some.pair.now in
    let later = rw c.attr-places.ensures at c.of.ensures in
    let earlier = rw c.attr-places.ensures at c.of-in-loop-pair.ensures in
    let here : IsInOrder c.args.self.now pair = omega (arith, later, earlier) in
    each_at_more (λ _. IsInOrder c.args.self.now) c.args.relation.now.given (length c.loop-pair.yielded) pair turn.1
    here c.loop-pair.invariant k p
    (omega (arith, below, length_push c.loop-pair.yielded c.in-Some.pair)) at'

pub returns-clause-none : goal.returns-clause-none
returns-clause-none c =
    let end =
    iter_end deref c.args.relation.now.given c.loop-pair.yielded c.into_iter-pair-iterator.result
    c.loop-pair.pair-iterator c.next.new.self c.next.result
    (cc) c.loop-pair.yielded_by c.in-None.is c.next.ensures.steps in
    λ k p at. c.loop-pair.invariant k p (omega (arith, end.1, slice_get_within c.args.relation.now.given k p at)) at
