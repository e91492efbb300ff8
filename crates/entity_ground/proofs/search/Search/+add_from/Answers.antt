use Rattle.std.proofs.Common.{◌≡◌, ◌-◌, ◌<◌, ◌∙◌, length, take, sym, arith}
use Rattle.std.proofs.lemmas.List.{length-take-le}
use Rattle.entity_ground.proofs.Tested.{nothing_more, one_more, all_added}
use Rattle.entity_ground.proofs.search.Search.+add_from.Goals as goal

pub returns-then-not-passes : goal.returns-then-not-passes
returns-then-not-passes t c =
    let own = c.args.self.now in
    let depth = c.args.depth in
    let front = take depth c.args.front in
    let few = c.vars-vars.ensures.few in
    let count : length front ≡ depth = length-take-le depth c.args.front
    (omega (arith, c.requires.room, c.requires.within, few)) in
    nothing_more own.rule own.table own.members front (own.rule.vars - depth) depth c.args.grounds.now count
    (sym c.passes.ensures ∙ c.if-not-passes.true)

pub returns-then-depth-vars : goal.returns-then-depth-vars
returns-then-depth-vars t c =
    let own = c.args.self.now in
    let depth = c.args.depth in
    let front = take depth c.args.front in
    let few = c.vars-vars.ensures.few in
    let count : length front ≡ depth = length-take-le depth c.args.front
    (omega (arith, c.requires.room, c.requires.within, few)) in
    let one = one_more own.rule own.table own.members front depth c.vars-vars.ensures.fits count
    (c.if-depth-vars.true ∙ c.vars-vars.ensures.value)
    (sym c.passes.ensures ∙ c.if-not-passes.false) in
    rw one c.push.ensures.ok

pub returns : goal.returns
returns t c =
    let own = c.args.self.now in
    let depth = c.args.depth in
    let front = take depth c.args.front in
    let few = c.vars-vars.ensures.few in
    let value = c.vars-vars.ensures.value in
    let apart = c.if-depth-vars.false in
    let count : length front ≡ depth = length-take-le depth c.args.front
    (omega (arith, c.requires.room, c.requires.within, few)) in
    let some : depth < own.rule.vars = omega (arith, apart, value, c.requires.within) in
    all_added own.rule own.table own.members front c.candidates-row-items.result.now depth c.loop-row.row-index
    c.args.grounds.now c.loop-row.grounds count some
    c.candidates-row-items.ensures (sym c.passes.ensures ∙ c.if-not-passes.false) c.loop-row-test.false c.loop-row.invariant
