use Rattle.std.proofs.Common.{◌+◌, arith}
use Rattle.std.proofs.lemmas.Option.{slice_get_within}
use Rattle.log_axioms.proofs.Places.{ascending_by_steps}
use Rattle.log_axioms.proofs.answers.are_ascending.Goals as goal

pub returns : goal.returns
returns c told =
    ascending_by_steps c.laws_of_tuple_order.ensures.total c.args.tuples.now
    (λ k a b at at'. c.loop-place.invariant.1 k a b
    (omega (arith, slice_get_within c.args.tuples.now (k + 1) b at', c.loop-place-test.false)) at at')
