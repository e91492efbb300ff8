use Rattle.currency_base.proofs.TupleOrder.{tuple_total, exact_tuples}
use Rattle.currency_base.proofs.tuple.laws_of_tuple_order.Goals as goal

pub returns-clause-total : goal.returns-clause-total
returns-clause-total c = tuple_total

pub returns-clause-equal : goal.returns-clause-equal
returns-clause-equal c = exact_tuples
