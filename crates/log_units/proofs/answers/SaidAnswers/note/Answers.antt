use Rattle.std.proofs.Common.{Contains, Option, Some, option_map, sym, ap, subst}
use Rattle.log_units.proofs.Changes.{adds_item}
use Rattle.log_units.proofs.Keys.{tuple_cmp, tuple_is, tuple_itself}
use Rattle.log_units.proofs.answers.SaidAnswers.note.Goals as goal
use Rattle.log_units.specs.Said.{Adds, TupleValues}

pub returns-in_ok-insert-in-Some : goal.returns-in_ok-insert-in-Some
returns-in_ok-insert-in-Some c =
    let total = c.laws_of_tuple_order.ensures.total in
    let exact = c.laws_of_tuple_order.ensures.equal in
    let new = c.insert.new.self.keys in
    let adds =
    adds_item tuple_cmp (tuple_is exact) (tuple_itself total) c.self.inside.set.keys new c.in-Some.tuple.now
    c.in_ok-insert-in-Some.ensures.updates.0 in
    subst (λ (p : Option TupleValues). Adds (Contains c.args.self.now) (Contains new) p)
    (sym (ap (option_map (λ t. t.now)) c.in-Some.is))
    (subst (λ tuples. Adds (Contains tuples) (Contains new) (Some c.in-Some.tuple.now)) c.self.view_is adds)
