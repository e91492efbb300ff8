use Rattle.std.proofs.lemmas.Result.{IfOk-weaker}
use Rattle.possible_answers.proofs.Sorted.{distinct_are}
use Rattle.possible_answers.proofs.distinct.distinct.Goals as goal

pub returns : goal.returns
returns c =
    IfOk-weaker c.without_repeats.result _ _ (λ list is. distinct_are c.laws_of_tuple_order.ensures.total
    c.laws_of_tuple_order.ensures.equal c.args.tuples.items c.in_ok-ascending.ascending.items list
    c.in_ok-ascending.ensures.same c.in_ok-ascending.ensures.ascending is) c.without_repeats.ensures
