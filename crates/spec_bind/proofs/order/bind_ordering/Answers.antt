-- More given pairs change no limit, and no name.
use Rattle.std.proofs.Common.{subst, Ok}
use Rattle.bind_faults.specs.Faults.{and_then, IsDue}
use Rattle.spec_model.specs.Spec.{Spec}
use Rattle.bound_spec.specs.Growth.{limited}
use Rattle.order_bind.specs.Orders.{ordered}
use Rattle.spec_bind.specs.Bound.{after_order}
use Rattle.spec_bind.proofs.Given.{ordering_gives, given_known, given_limited}
use Rattle.spec_bind.proofs.order.bind_ordering.Goals as goal

pub invariant_of-result : goal.invariant_of-result
invariant_of-result c =
    given_known c.bound.inside.spec c.bind_order.new.spec c.bound.inside.names c.bound.inside.rows
    (ordering_gives c.bound.inside.spec c.bind_order.new.spec c.args.ordering.now c.in-Ok.ensures.step
    c.in-Ok.ensures.rules c.in-Ok.ensures.copies)
    c.in-Ok.ensures.names c.bound.invariant

pub returns-in-Ok-clause-due : goal.returns-in-Ok-clause-due
returns-in-Ok-clause-due c =
    subst (λ (s : Spec). IsDue (and_then (after_order s c.args.ordering.now) limited) (Ok c.bind_order.new.spec)) c.bound.view_is
    (given_limited c.bound.inside.spec c.bind_order.new.spec
    (ordered c.bound.inside.spec.relations c.args.ordering.now) c.in-Ok.ensures.step
    (ordering_gives c.bound.inside.spec c.bind_order.new.spec c.args.ordering.now c.in-Ok.ensures.step
    c.in-Ok.ensures.rules c.in-Ok.ensures.copies)
    c.bound.invariant.within)
