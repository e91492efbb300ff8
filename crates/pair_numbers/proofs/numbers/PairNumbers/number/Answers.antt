use Rattle.std.proofs.Common.{ap, arith}
use Rattle.pair_numbers.proofs.Blocks.{numbered_of}
use Rattle.pair_numbers.proofs.numbers.PairNumbers.number.Goals as goal

pub overflow_sub-steps : goal.overflow_sub-steps
overflow_sub-steps c =
    let n = numbered_of _ _ _ c.self.invariant c.args.self.now.entities c.args.earlier c.args.later c.place-2.result
    c.place.result
    c.index-start.result.now (ap (λ g. g.entities) c.self.view_is) c.requires.order c.requires.within c.requires.one_entity
    c.place-2.ensures c.place.ensures c.index-start.ensures in
    omega arith

pub overflow_sub-result : goal.overflow_sub-result
overflow_sub-result c =
    let n = numbered_of _ _ _ c.self.invariant c.args.self.now.entities c.args.earlier c.args.later c.place-2.result
    c.place.result
    c.index-start.result.now (ap (λ g. g.entities) c.self.view_is) c.requires.order c.requires.within c.requires.one_entity
    c.place-2.ensures c.place.ensures c.index-start.ensures in
    omega arith

pub overflow_cast-result : goal.overflow_cast-result
overflow_cast-result c =
    let n = numbered_of _ _ _ c.self.invariant c.args.self.now.entities c.args.earlier c.args.later c.place-2.result
    c.place.result
    c.index-start.result.now (ap (λ g. g.entities) c.self.view_is) c.requires.order c.requires.within c.requires.one_entity
    c.place-2.ensures c.place.ensures c.index-start.ensures in
    omega (arith, n.within, n.few)

pub overflow_add-result : goal.overflow_add-result
overflow_add-result c =
    let n = numbered_of _ _ _ c.self.invariant c.args.self.now.entities c.args.earlier c.args.later c.place-2.result
    c.place.result
    c.index-start.result.now (ap (λ g. g.entities) c.self.view_is) c.requires.order c.requires.within c.requires.one_entity
    c.place-2.ensures c.place.ensures c.index-start.ensures in
    omega (arith, n.within, n.few)

pub returns-clause-pair : goal.returns-clause-pair
returns-clause-pair c =
    let n = numbered_of _ _ _ c.self.invariant c.args.self.now.entities c.args.earlier c.args.later c.place-2.result
    c.place.result
    c.index-start.result.now (ap (λ g. g.entities) c.self.view_is) c.requires.order c.requires.within c.requires.one_entity
    c.place-2.ensures c.place.ensures c.index-start.ensures in
    n.pair

pub returns-clause-within : goal.returns-clause-within
returns-clause-within c =
    let n = numbered_of _ _ _ c.self.invariant c.args.self.now.entities c.args.earlier c.args.later c.place-2.result
    c.place.result
    c.index-start.result.now (ap (λ g. g.entities) c.self.view_is) c.requires.order c.requires.within c.requires.one_entity
    c.place-2.ensures c.place.ensures c.index-start.ensures in
    n.within
