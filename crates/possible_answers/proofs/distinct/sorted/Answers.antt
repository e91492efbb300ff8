use Rattle.std.proofs.Common.{◌≡◌, List, rules}
use Rattle.std.specs.Ordering.{is_lt}
use Rattle.std.proofs.lemmas.Fn.{always_returns_same}
use Rattle.std.proofs.lemmas.List.Sorted.{ranks_by}
use Rattle.currency_base.specs.declared.value.Value.{Value}
use Rattle.ucq_answers.specs.TupleOrder.{tuple_total}
use Rattle.possible_answers.specs.Distinct.{is_below}
use Rattle.possible_answers.proofs.distinct.sorted.Goals as goal

pub returns-clause-ascending : goal.returns-clause-ascending
returns-clause-ascending c =
    let answers = always_returns_same _ (λ a r. is_lt r ≡ is_below a.0.now a.1.0.now) _ (λ a r q k. search rules) in
    c.in_ok-sort_by.ensures.sorted is_below (ranks_by tuple_total (λ (x : List Value). x)) answers
