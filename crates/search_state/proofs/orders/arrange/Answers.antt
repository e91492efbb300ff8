use Rattle.std.proofs.Common.{◌<◌, List, length, subst, inr}
use Rattle.currency_base.specs.declared.lit.Lit.{Lit}
use Rattle.search_trail.specs.Trails.{lits_of}
use Rattle.watch_propagate.proofs.SameFacts.{same_then}
use Rattle.search_state.proofs.Standings.{KnownFrom, NoneTrue, OpenAt, begins_open, begins_unit}
use Rattle.search_state.proofs.Swaps.{changed_same}
use Rattle.search_state.proofs.orders.arrange.Goals as goal

pub returns-in_default-first_open-2-clause-implies : goal.returns-in_default-first_open-2-clause-implies
returns-in_default-first_open-2-clause-implies c =
    let truths = lits_of c.args.trail.now in
    let within = subst (λ (xs : List Lit). c.in-Some-first_open.place < length xs) c.deref-2.ensures.value
    c.in-Some-first_open.ensures.within in
    let is_open = subst (OpenAt truths c.in-Some-first_open.place) c.deref-2.ensures.value c.in-Some-first_open.ensures.found in
    let none = subst (NoneTrue truths) c.deref.ensures.value c.in_default.ensures.none in
    let known = subst (KnownFrom truths 1) c.deref-3.ensures.value c.in_default-first_open-2.ensures.none in
    λ e. begins_unit truths _ _ _ c.change-2.ensures within none is_open known

pub returns-clause-same : goal.returns-clause-same
returns-clause-same c =
    same_then _ _ _ (changed_same _ _ _ _ c.change-2.ensures) (changed_same _ _ _ _ c.change-3.ensures)

pub returns-clause-rests : goal.returns-clause-rests
returns-clause-rests c =
    let truths = lits_of c.args.trail.now in
    let place = c.in-Some-first_open.place in
    let other = c.in-Some-first_open-2.other in
    let within = subst (λ (xs : List Lit). place < length xs) c.deref-2.ensures.value c.in-Some-first_open.ensures.within in
    let is_open = subst (OpenAt truths place) c.deref-2.ensures.value c.in-Some-first_open.ensures.found in
    let within' = subst (λ (xs : List Lit). other < length xs) c.deref-3.ensures.value c.in-Some-first_open-2.ensures.within in
    let is_open' = subst (OpenAt truths other) c.deref-3.ensures.value c.in-Some-first_open-2.ensures.found in
    λ e. inr (begins_open truths _ _ _ _ _ c.change-2.ensures c.change-3.ensures within within'
    c.in-Some-first_open-2.ensures.later is_open is_open')
