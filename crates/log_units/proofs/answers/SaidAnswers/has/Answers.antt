use Rattle.std.proofs.Common.{Contains, sym, ◌∙◌, subst}
use Rattle.log_units.proofs.Changes.{item_found, item_in}
use Rattle.log_units.proofs.Keys.{tuple_cmp, tuple_is, tuple_itself}
use Rattle.log_units.proofs.answers.SaidAnswers.has.Goals as goal

pub returns-clause-is_there : goal.returns-clause-is_there
returns-clause-is_there c = λ e.
    let total = c.laws_of_tuple_order.ensures.total in
    let exact = c.laws_of_tuple_order.ensures.equal in
    subst (λ tuples. Contains tuples c.args.tuple.now) c.self.view_is
    (item_in tuple_cmp (tuple_is exact) (tuple_itself total) c.self.inside.set.keys c.args.tuple.now (sym c.contains.ensures ∙ e))

pub returns-clause-is_found : goal.returns-clause-is_found
returns-clause-is_found c = λ is.
    let total = c.laws_of_tuple_order.ensures.total in
    let exact = c.laws_of_tuple_order.ensures.equal in
    c.contains.ensures
    ∙ item_found tuple_cmp (tuple_is exact) (tuple_itself total) c.self.inside.set.keys c.args.tuple.now
    (subst (λ tuples. Contains tuples c.args.tuple.now) (sym c.self.view_is) is)
