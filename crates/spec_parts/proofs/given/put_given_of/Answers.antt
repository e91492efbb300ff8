use Rattle.std.proofs.Common.{◌≤◌, Contains, length, get_or, sym, ap, subst, arith}
use Rattle.std.proofs.lemmas.Option.{slice_get-get_or}
use Rattle.currency_base.specs.declared.ids.EntId.{EntId}
use Rattle.part_laws.specs.Parts.{rows_in, entities_in}
use Rattle.spec_parts.specs.Steps.{AreOfPart, HasPairs}
use Rattle.spec_parts.proofs.Adding.{grows_none, grows_also}
use Rattle.spec_parts.proofs.GivenSteps.{pairs_of_part, entity_listed, done_more, all_done}
use Rattle.spec_parts.proofs.Pairing.{item_at, is_in}
use Rattle.spec_parts.proofs.given.put_given_of.Goals as goal

none : EntId
none = record { 0 = 0 }

pub loop-entity-init : goal.loop-entity-init
loop-entity-init c = record {
  grows = grows_none c.args.whole.now c.args.places.now c.args.part.now c.requires.so_far;
  added = λ k ent below at. absurd (omega (arith, below));
}

pub of-requires-clause-ent : goal.of-requires-clause-ent
unfolding none
of-requires-clause-ent c =
    let r = item_at c.args.whole.now.relations c.args.rel.0 c.requires.within in
    entity_listed c.args.whole.now c.args.places.now c.args.index.now c.args.rel.0 c.requires.cut c.requires.index r.0
    c.entities-entity-items.result.now
    c.loop-entity.entity-index none r.1 c.entities-entity-items.ensures c.loop-entity-test.true

pub put_pairs-requires-clause-pairs : goal.put_pairs-requires-clause-pairs
unfolding none
put_pairs-requires-clause-pairs c =
    let items = c.entities-entity-items in
    let ent = get_or items.result.now c.loop-entity.entity-index none in
    let is = is_in items.result.now c.loop-entity.entity-index ent
    (slice_get-get_or items.result.now c.loop-entity.entity-index none c.loop-entity-test.true) in
    let of = pairs_of_part c.args.whole.now c.args.places.now c.args.index.now c.args.rel.0 c.requires.cut c.requires.index ent
    (subst (λ l. Contains l ent) items.ensures is) in
    subst (AreOfPart c.args.whole.now.relations c.args.places.now c.args.rel.0) (sym c.of.ensures) of

pub loop-entity-preserved : goal.loop-entity-preserved
unfolding none
loop-entity-preserved c =
    let whole = c.args.whole.now in
    let places = c.args.places.now in
    let items = c.entities-entity-items in
    let put = c.in_ok-put_pairs.ensures in
    let has = subst (HasPairs c.put_pairs.new.part.relations c.args.rel.0 (rows_in places c.args.rel.0)) c.of.ensures put.added in
    record {
      grows = grows_also whole places c.args.part.now c.loop-entity.part c.put_pairs.new.part
          c.loop-entity.invariant.grows put.grows;
      added = done_more whole places c.args.index.now c.args.rel.0 c.requires.cut c.requires.index c.loop-entity.part
          c.put_pairs.new.part
          items.result.now
          c.loop-entity.entity-index none items.ensures c.loop-entity-test.true put.grows c.loop-entity.invariant.added has;
    }

pub returns-clause-given : goal.returns-clause-given
returns-clause-given c =
    let same = ap length c.entities-entity-items.ensures in
    let end : length (entities_in c.args.places.now c.args.rel.0) ≤ c.loop-entity.entity-index = omega
    (arith, same, c.loop-entity-test.false) in
    all_done c.args.whole.now c.args.places.now c.args.index.now c.args.rel.0 c.requires.cut c.requires.index
    c.loop-entity.part.relations
    c.loop-entity.entity-index
    end c.loop-entity.invariant.added
