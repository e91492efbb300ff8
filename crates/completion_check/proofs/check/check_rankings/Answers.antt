use Rattle.std.proofs.Common.{◌≡◌, ◌<◌, [], length, slice_index_or, refl, arith}
use Rattle.std.proofs.lemmas.List.{get_or_read}
use Rattle.std.proofs.lemmas.Option.{slice_get_within, slice_get_read}
use Rattle.spec_model.specs.declared.relation.Relation.{Relation}
use Rattle.completion_check.specs.Relations.{IsRanked, AreAllMarked, IsFirstUnrankedOf}
use Rattle.completion_check.proofs.Kept.{each_at_more}
use Rattle.completion_check.proofs.Ranked.{fits_relation, first_unranked}
use Rattle.completion_check.proofs.Rooms.{each_written, has_all_places_set}
use Rattle.completion_check.proofs.check.check_rankings.Goals as goal

pub mark-requires-clause-room : goal.mark-requires-clause-room
mark-requires-clause-room c =
    let at = slice_get_read c.args.relations.now (length c.args.relations.now) c.loop-at.at
    c.index-relations-at.result refl c.loop-at-test.true c.index-relations-at.is in
    let room : c.loop-at.at < length c.loop-at.places.items = omega (arith, c.loop-at.invariant.room.per_relation) in
    let was : c.index_mut.result.now ≡ slice_index_or c.loop-at.places.items c.loop-at.at [] =
    get_or_read c.loop-at.places.items c.loop-at.at c.index_mut.result.now room c.index_mut.ensures.value [] in
    rw was (c.loop-at.invariant.room.each c.loop-at.at c.index-relations-at.result at)

pub mark-requires-clause-shape : goal.mark-requires-clause-shape
mark-requires-clause-shape c =
    let at = slice_get_read c.args.relations.now (length c.args.relations.now) c.loop-at.at
    c.index-relations-at.result refl c.loop-at-test.true c.index-relations-at.is in
    rw (c.as_slice-rankings.ensures, c.relation.ensures) (fits_relation c.args.relations.now c.args.completion.now
    c.loop-at.at c.index-relations-at.result c.requires.shape at)

pub returns-in-Some-clause-room_stays : goal.returns-in-Some-clause-room_stays
returns-in-Some-clause-room_stays c =
    let at = slice_get_read c.args.relations.now (length c.args.relations.now) c.loop-at.at
    c.index-relations-at.result refl c.loop-at-test.true c.index-relations-at.is in
    let room : c.loop-at.at < length c.loop-at.places.items = omega (arith, c.loop-at.invariant.room.per_relation) in
    has_all_places_set c.args.relations.now c.loop-at.places.items c.loop-at.at c.index-relations-at.result
    c.mark.new.self room at c.mark.ensures.room_stays c.loop-at.invariant.room

pub returns-in-Some-clause-err : goal.returns-in-Some-clause-err
returns-in-Some-clause-err c =
    let at = slice_get_read c.args.relations.now (length c.args.relations.now) c.loop-at.at
    c.index-relations-at.result refl c.loop-at-test.true c.index-relations-at.is in
    let first : IsFirstUnrankedOf c.index-relations-at.result (slice_index_or c.args.completion.now c.loop-at.at [])
    c.in-Some.list.attr.0 c.in-Some.list.ent.0 =
    rw (c.as_slice-rankings.ensures, c.relation.ensures) at c.in-Some.ensures.some in
    first_unranked c.args.relations.now c.args.completion.now c.loop-at.at c.index-relations-at.result
    c.in-Some.list.attr.0 c.in-Some.list.ent.0 at c.loop-at.invariant.ranked first

pub loop-at-preserved : goal.loop-at-preserved
loop-at-preserved c =
    let r = c.index-relations-at.result in
    let rs = c.args.relations.now in
    let n = c.loop-at.at in
    let ps = c.loop-at.places.items in
    let at = slice_get_read rs (length rs) n r refl c.loop-at-test.true c.index-relations-at.is in
    let room : n < length ps = omega (arith, c.loop-at.invariant.room.per_relation) in
    let ranked : IsRanked r (slice_index_or c.args.completion.now n []) =
    rw (c.as_slice-rankings.ensures, c.relation.ensures) at c.in_default.ensures.none in
    let marked : AreAllMarked r (slice_index_or c.args.completion.now n []) c.mark.new.self =
    rw (c.as_slice-rankings.ensures, c.relation.ensures) at c.in_default.ensures.marked in
    record {
      room = has_all_places_set rs ps n r c.mark.new.self room at c.mark.ensures.room_stays c.loop-at.invariant.room;
      ranked = each_at_more (λ rel q. IsRanked q (slice_index_or c.args.completion.now rel [])) rs n r at ranked
          c.loop-at.invariant.ranked;
      marked = each_written (λ rel (q : Relation) p. AreAllMarked q (slice_index_or c.args.completion.now rel []) p)
          rs ps n r c.mark.new.self [] room at marked c.loop-at.invariant.marked;
    }

pub returns-clause-ok : goal.returns-clause-ok
returns-clause-ok c =
    record {
      shape = c.requires.shape;
      ranked = λ rel r at. c.loop-at.invariant.ranked rel r (omega (arith, slice_get_within c.args.relations.now rel r at)) at;
    }

pub returns-clause-marked : goal.returns-clause-marked
returns-clause-marked c = λ rel r at. c.loop-at.invariant.marked rel r
    (omega (arith, slice_get_within c.args.relations.now rel r at)) at
