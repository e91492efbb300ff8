use Rattle.std.proofs.Common.{ℕ, List, Option, Ok, Err, IfSome, subst}
use Rattle.bind_faults.specs.Faults.{IsReadFaultOf}
use Rattle.spec_model.specs.Spec.{Spec}
use Rattle.order_bind.specs.TableOrders.{IsOrdersTable}
use Rattle.spec_bind.specs.Bound.{IsLimited, IsTableMade}
use Rattle.spec_bind.proofs.Given.{given_known, table_gives}
use Rattle.spec_bind.proofs.Steps.{Docs, part_table, table_refused, table_step}
use Rattle.spec_bind.proofs.orders.bind_table.Goals as goal

pub invariant_of-result : goal.invariant_of-result
invariant_of-result g c =
    given_known c.bound.inside.spec c.bind_orders.new.spec c.bound.inside.names c.bound.inside.rows
    (table_gives c.bound.inside.spec c.bind_orders.new.spec c.in-Ok.ensures.given c.in-Ok.ensures.rules c.in-Ok.ensures.copies)
    c.in-Ok.ensures.names c.bound.invariant

pub returns-in-Ok-clause-step : goal.returns-in-Ok-clause-step
returns-in-Ok-clause-step g c =
    let texts = g.S.Shelf.texts c.args.shelf.now in
    λ determined. subst (λ (s : Spec). IfSome texts
    (λ told. IsLimited (IsTableMade told s c.args.relation.now c.args.document.now) (Ok c.bind_orders.new.spec)))
    c.bound.view_is
    (table_step texts c.bound.inside.spec c.bind_orders.new.spec c.args.relation.now c.args.document.now (c.in-Ok.ensures.step tt)
    (table_gives c.bound.inside.spec c.bind_orders.new.spec c.in-Ok.ensures.given c.in-Ok.ensures.rules c.in-Ok.ensures.copies)
    c.bound.invariant.within)

pub returns-in-Err-clause-step : goal.returns-in-Err-clause-step
returns-in-Err-clause-step g c =
    let texts = g.S.Shelf.texts c.args.shelf.now in
    λ determined. subst (λ (s : Spec). IfSome texts
    (λ told. IsLimited (IsTableMade told s c.args.relation.now c.args.document.now) (Err c.in-Err.fault))) c.bound.view_is
    (table_refused texts c.bound.inside.spec c.bind_orders.new.spec c.args.relation.now c.args.document.now
    c.in-Err.fault c.in-Err.ensures.step determined)

pub returns-in-Err-clause-table : goal.returns-in-Err-clause-table
returns-in-Err-clause-table g c =
    subst (λ (s : Spec). (name : List ℕ) → IsReadFaultOf {A = Spec} (Err c.in-Err.fault) name
    → IsOrdersTable s.relations c.args.relation.now c.args.document.now name) c.bound.view_is
    (λ name. part_table (Unit {0}) (IsOrdersTable c.bound.inside.spec.relations c.args.relation.now
    c.args.document.now) c.in-Err.fault name c.in-Err.ensures.table)
