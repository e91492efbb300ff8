use Rattle.std.proofs.Common.{ap, arith}
use Rattle.pair_numbers.proofs.Blocks.{found_of, starts_ascend}
use Rattle.pair_numbers.proofs.numbers.PairNumbers.pair.Goals as goal

pub last_up_to-at-requires-clause-ascend : goal.last_up_to-at-requires-clause-ascend
last_up_to-at-requires-clause-ascend c = rw c.deref.ensures.value (starts_ascend _ _ _ c.self.invariant)

pub overflow_add-later : goal.overflow_add-later
overflow_add-later c =
    let f = found_of _ _ _ c.self.invariant c.args.self.now.entities _ _ (record { 0 = c.last_up_to-at.result })
    c.entity.result.0 c.place.result
    c.index.result.now c.args.number (ap (λ g. g.entities) c.self.view_is) c.deref.ensures.value
    c.of_entity-rows.ensures c.requires c.last_up_to-at.ensures.within
    c.last_up_to-at.ensures.up_to c.last_up_to-at.ensures.last c.entity.ensures.value
    (c.place.ensures c.entity.result.0 c.entity.ensures.value) c.index.ensures in
    omega arith

pub overflow_add-later-2 : goal.overflow_add-later-2
overflow_add-later-2 c =
    let f = found_of _ _ _ c.self.invariant c.args.self.now.entities _ _ (record { 0 = c.last_up_to-at.result })
    c.entity.result.0 c.place.result
    c.index.result.now c.args.number (ap (λ g. g.entities) c.self.view_is) c.deref.ensures.value
    c.of_entity-rows.ensures c.requires c.last_up_to-at.ensures.within
    c.last_up_to-at.ensures.up_to c.last_up_to-at.ensures.last c.entity.ensures.value
    (c.place.ensures c.entity.result.0 c.entity.ensures.value) c.index.ensures in
    omega (arith, f.room, f.few)

pub offset_bounds-rows-place : goal.offset_bounds-rows-place
offset_bounds-rows-place c =
    let f = found_of _ _ _ c.self.invariant c.args.self.now.entities _ _ (record { 0 = c.last_up_to-at.result })
    c.entity.result.0 c.place.result
    c.index.result.now c.args.number (ap (λ g. g.entities) c.self.view_is) c.deref.ensures.value
    c.of_entity-rows.ensures c.requires c.last_up_to-at.ensures.within
    c.last_up_to-at.ensures.up_to c.last_up_to-at.ensures.last c.entity.ensures.value
    (c.place.ensures c.entity.result.0 c.entity.ensures.value) c.index.ensures in
    omega (arith, f.room, f.few)

pub bounds-rows-place : goal.bounds-rows-place
bounds-rows-place c =
    let f = found_of _ _ _ c.self.invariant c.args.self.now.entities _ _ (record { 0 = c.last_up_to-at.result })
    c.entity.result.0 c.place.result
    c.index.result.now c.args.number (ap (λ g. g.entities) c.self.view_is) c.deref.ensures.value
    c.of_entity-rows.ensures c.requires c.last_up_to-at.ensures.within
    c.last_up_to-at.ensures.up_to c.last_up_to-at.ensures.last c.entity.ensures.value
    (c.place.ensures c.entity.result.0 c.entity.ensures.value) c.index.ensures in
    f.room

pub returns : goal.returns
returns c =
    let f = found_of _ _ _ c.self.invariant c.args.self.now.entities _ _ (record { 0 = c.last_up_to-at.result })
    c.entity.result.0 c.place.result
    c.index.result.now c.args.number (ap (λ g. g.entities) c.self.view_is) c.deref.ensures.value
    c.of_entity-rows.ensures c.requires c.last_up_to-at.ensures.within
    c.last_up_to-at.ensures.up_to c.last_up_to-at.ensures.last c.entity.ensures.value
    (c.place.ensures c.entity.result.0 c.entity.ensures.value) c.index.ensures in
    f.pair _
