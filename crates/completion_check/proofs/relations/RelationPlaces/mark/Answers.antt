use Rattle.std.proofs.Common.{◌≡◌, ◌<◌, ◌∙◌, ℕ, [], length, slice_index_or, ap, sym, subst, arith}
use Rattle.std.proofs.lemmas.List.{get_or_read}
use Rattle.completion_check.specs.Marks.{AreMarked}
use Rattle.completion_check.proofs.Ranked.{ranked_more, attr_within, attr_passed, first_unranked_of}
use Rattle.completion_check.proofs.RowPlaces.{has_places_set, marked_next}
use Rattle.completion_check.proofs.relations.RelationPlaces.mark.Goals as goal

pub loop-attr-preserved : goal.loop-attr-preserved
loop-attr-preserved c =
    let r = c.args.relation.now in
    let lists = c.args.rankings.now in
    let attr = c.loop-attr.attr in
    let ps = c.loop-attr.self-inside.attrs.items in
    let read = get_or_read lists attr c.index-rankings-attr.result c.loop-attr-test.true c.index-rankings-attr.is [] in
    let here = rw (c.as_slice-rows.ensures, c.as_slice.ensures, read) at c.mark-ent.ensures.ranked in
    let within = attr_within r lists attr c.requires.shape c.loop-attr-test.true in
    let room : attr < length ps = omega (arith, c.loop-attr.invariant.room.per_attr) in
    let was : c.index_mut.result.now ≡ slice_index_or ps attr [] = get_or_read ps attr c.index_mut.result.now room
    c.index_mut.ensures.value [] in
    let all : c.mark-ent.result ≡ length (slice_index_or lists attr []) = omega (
      arith,
      c.mark-ent.ensures.within,
      ap length c.as_slice.ensures,
      ap length read,
    ) in
    let mark : c.mark-ent.result ≡ length (slice_index_or lists attr []) → AreMarked r.rows
    (slice_index_or lists attr []) c.mark-ent.new.self =
    rw (c.as_slice-rows.ensures, c.as_slice.ensures, read) at c.mark-ent.ensures.marked in
    let marks = mark all in
    record {
      room = has_places_set r ps attr c.mark-ent.new.self within (c.mark-ent.ensures.room_stays ∙ ap length was)
          c.loop-attr.invariant.room;
      ranked = ranked_more r lists attr c.mark-ent.result (c.requires.shape.per_entity attr within) here
          (omega (arith, ap length read)) c.loop-attr.invariant.ranked;
      marked = marked_next r lists ps attr c.mark-ent.new.self room marks c.loop-attr.invariant.marked;
    }

pub mark-ent-requires : goal.mark-ent-requires
mark-ent-requires c =
    let r = c.args.relation.now in
    let attr = c.loop-attr.attr in
    let ps = c.loop-attr.self-inside.attrs.items in
    let within = attr_within r c.args.rankings.now attr c.requires.shape c.loop-attr-test.true in
    let room = subst (λ (n : ℕ). attr < n) (sym c.loop-attr.invariant.room.per_attr) within in
    let was = get_or_read ps attr c.index_mut.result.now room c.index_mut.ensures.value [] in
    record {
      room = ap length c.as_slice-rows.ensures ∙ (sym (c.loop-attr.invariant.room.per_row attr within) ∙ sym (ap length
          was));
    }

pub returns-then-ent-len-clause-room_stays : goal.returns-then-ent-len-clause-room_stays
returns-then-ent-len-clause-room_stays c =
    let r = c.args.relation.now in
    let attr = c.loop-attr.attr in
    let ps = c.loop-attr.self-inside.attrs.items in
    let within = attr_within r c.args.rankings.now attr c.requires.shape c.loop-attr-test.true in
    let room = subst (λ (n : ℕ). attr < n) (sym c.loop-attr.invariant.room.per_attr) within in
    let was = get_or_read ps attr c.index_mut.result.now room c.index_mut.ensures.value [] in
    has_places_set r ps attr c.mark-ent.new.self within (c.mark-ent.ensures.room_stays ∙ ap length was) c.loop-attr.invariant.room

pub returns-then-ent-len-clause-some : goal.returns-then-ent-len-clause-some
returns-then-ent-len-clause-some c =
    let lists = c.args.rankings.now in
    let attr = c.loop-attr.attr in
    let ent = c.mark-ent.result in
    let read = get_or_read lists attr c.index-rankings-attr.result c.loop-attr-test.true c.index-rankings-attr.is [] in
    let here = rw (c.as_slice-rows.ensures, c.as_slice.ensures, read) at c.mark-ent.ensures.ranked in
    let refused = rw (c.as_slice-rows.ensures, c.as_slice.ensures, read) at c.mark-ent.ensures.refused in
    let inside : ent < length (slice_index_or lists attr []) =
    subst (λ (n : ℕ). ent < n) (c.len.ensures ∙ ap length read) c.if-ent-len.true in
    first_unranked_of c.args.relation.now lists attr ent c.requires.shape c.loop-attr-test.true inside here (refused inside)
    c.loop-attr.invariant.ranked

pub returns-clause-none : goal.returns-clause-none
returns-clause-none c = λ attr ent within inside.
    c.loop-attr.invariant.ranked attr ent (attr_passed c.args.relation.now c.args.rankings.now c.loop-attr.attr attr
    c.requires.shape c.loop-attr-test.false within) inside

pub returns-clause-marked : goal.returns-clause-marked
returns-clause-marked c = λ attr within.
    c.loop-attr.invariant.marked attr (attr_passed c.args.relation.now c.args.rankings.now c.loop-attr.attr attr c.requires.shape
    c.loop-attr-test.false within)
