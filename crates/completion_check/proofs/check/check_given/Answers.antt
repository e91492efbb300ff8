use Rattle.std.proofs.Common.{◌≡◌, ◌<◌, [], length, slice_index_or, refl, arith}
use Rattle.std.proofs.lemmas.List.{get_or_read}
use Rattle.std.proofs.lemmas.Option.{slice_get_within, slice_get_read}
use Rattle.completion_check.specs.Relations.{AreInOrder, IsFirstOutOfOrder}
use Rattle.completion_check.proofs.Kept.{each_at_more}
use Rattle.completion_check.proofs.check.check_given.Goals as goal

pub broken-requires-clause-room : goal.broken-requires-clause-room
broken-requires-clause-room c =
    let at = slice_get_read c.args.relations.now (length c.args.relations.now) c.loop-at.at
    c.index-relations-at.result refl c.loop-at-test.true c.index-relations-at.is in
    let room : c.loop-at.at < length c.args.places.now = omega (arith, c.requires.room.per_relation) in
    let own : c.index-places-at.result ≡ slice_index_or c.args.places.now c.loop-at.at [] =
    get_or_read c.args.places.now c.loop-at.at c.index-places-at.result room c.index-places-at.is [] in
    rw own (c.requires.room.each c.loop-at.at c.index-relations-at.result at)

pub returns-in-Some-clause-err : goal.returns-in-Some-clause-err
returns-in-Some-clause-err c =
    let at = slice_get_read c.args.relations.now (length c.args.relations.now) c.loop-at.at
    c.index-relations-at.result refl c.loop-at-test.true c.index-relations-at.is in
    let room : c.loop-at.at < length c.args.places.now = omega (arith, c.requires.room.per_relation) in
    let own : c.index-places-at.result ≡ slice_index_or c.args.places.now c.loop-at.at [] =
    get_or_read c.args.places.now c.loop-at.at c.index-places-at.result room c.index-places-at.is [] in
    let first : IsFirstOutOfOrder (slice_index_or c.args.places.now c.loop-at.at [])
    c.index-relations-at.result.given c.in-Some.pair = rw own at c.in-Some.ensures.some in
    record { relation = c.index-relations-at.result; is_relation = at; first = first; earlier = c.loop-at.invariant }

pub loop-at-preserved : goal.loop-at-preserved
loop-at-preserved c =
    let at = slice_get_read c.args.relations.now (length c.args.relations.now) c.loop-at.at
    c.index-relations-at.result refl c.loop-at-test.true c.index-relations-at.is in
    let room : c.loop-at.at < length c.args.places.now = omega (arith, c.requires.room.per_relation) in
    let own : c.index-places-at.result ≡ slice_index_or c.args.places.now c.loop-at.at [] =
    get_or_read c.args.places.now c.loop-at.at c.index-places-at.result room c.index-places-at.is [] in
    let here : AreInOrder (slice_index_or c.args.places.now c.loop-at.at []) c.index-relations-at.result.given =
    rw own at c.in_default.ensures.none in
    each_at_more (λ rel r. AreInOrder (slice_index_or c.args.places.now rel []) r.given) c.args.relations.now
    c.loop-at.at c.index-relations-at.result at here c.loop-at.invariant

pub returns-clause-ok : goal.returns-clause-ok
returns-clause-ok c = λ rel r at. c.loop-at.invariant rel r (omega (arith, slice_get_within c.args.relations.now rel r at)) at
