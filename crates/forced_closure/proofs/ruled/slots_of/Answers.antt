use Rattle.std.proofs.Common.{rules, ◌≡◌, List, [], sym, subst}
use Rattle.std.proofs.lemmas.List.{take_all}
use Rattle.std.proofs.lemmas.Option.{slice_get-get_or}
use Rattle.currency_base.specs.declared.pair.Pair.{Pair}
use Rattle.forced_closure.specs.Clauses.{AreSlots}
use Rattle.forced_closure.proofs.Adding.{slots_none, slots_next}
use Rattle.forced_closure.proofs.ruled.slots_of.Goals as goal

pub loop-pair-init : goal.loop-pair-init
loop-pair-init c =
    let none : c.new-slots.result.items ≡ [] = search rules in
    subst (AreSlots c.args.subject.now.layout c.args.rel.0 []) (sym none) (slots_none c.args.subject.now.layout c.args.rel.0)

pub loop-pair-preserved : goal.loop-pair-preserved
loop-pair-preserved c =
    slots_next c.args.subject.now.layout c.args.rel.0 c.args.pairs.now c.loop-pair.pair-index _
    c.loop-pair.slots.items c.push.new.self.items c.slot.result
    (slice_get-get_or c.args.pairs.now c.loop-pair.pair-index _ c.loop-pair-test.true) c.loop-pair.invariant
    c.slot.ensures (search rules)

pub returns : goal.returns
returns c =
    subst (λ (ps : List Pair). AreSlots c.args.subject.now.layout c.args.rel.0 ps c.loop-pair.slots.items)
    (take_all c.loop-pair.pair-index c.args.pairs.now c.loop-pair-test.false) c.loop-pair.invariant
