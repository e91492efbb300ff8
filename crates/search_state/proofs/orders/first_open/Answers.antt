use Rattle.std.proofs.lemmas.Option.{slice_get-get_or}
use Rattle.search_state.proofs.Standings.{known_all, known_more}
use Rattle.search_state.proofs.orders.first_open.Goals as goal

pub loop-place-preserved : goal.loop-place-preserved
loop-place-preserved c =
    known_more _ _ _ _ _ c.loop-place.invariant (slice_get-get_or c.args.lits.now c.loop-place.place _ c.loop-place-test.true)
    (c.is_open.ensures.known c.if-is_open.false)

pub returns-clause-none : goal.returns-clause-none
returns-clause-none c = known_all _ _ _ _ c.loop-place.invariant c.loop-place-test.false
