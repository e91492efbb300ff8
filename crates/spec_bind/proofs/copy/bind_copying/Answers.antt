use Rattle.std.proofs.Common.{ℕ, List, Result, Ok, Err, IfSome, subst}
use Rattle.bind_faults.specs.Faults.{IsReadFaultOf}
use Rattle.bind_faults.specs.declared.fault.BindFault.{BindFault}
use Rattle.copy_functions.specs.Copies.{CopyFunction}
use Rattle.spec_model.specs.Spec.{Spec}
use Rattle.copy_bind.specs.Made.{IsCopyMade, IsCopyTable}
use Rattle.bound_spec.specs.Growth.{with_copy}
use Rattle.spec_bind.proofs.Steps.{Docs, part_refused, part_step, part_table}
use Rattle.spec_bind.proofs.copy.bind_copying.Goals as goal

pub returns-in-Ok-clause-step : goal.returns-in-Ok-clause-step
returns-in-Ok-clause-step g c =
    let texts = g.S.Shelf.texts c.args.shelf.now in
    let tree = c.args.tree.now in
    part_step texts (λ (told : Docs) (r : Result CopyFunction BindFault). IsCopyMade told c.args.bound tree r)
    (with_copy c.args.bound) c.in-Ok.copy c.add_copy.result
    (subst (λ (s : Spec). IfSome texts (λ told. IsCopyMade told s tree (Ok c.in-Ok.copy))) c.bound.view_is
    (c.in-Ok.ensures.made tt))
    c.add_copy.ensures.due

pub returns-in-Err-clause-step : goal.returns-in-Err-clause-step
returns-in-Err-clause-step g c =
    let texts = g.S.Shelf.texts c.args.shelf.now in
    let tree = c.args.tree.now in
    part_refused texts (λ (told : Docs) (r : Result CopyFunction BindFault). IsCopyMade told c.args.bound tree r)
    (with_copy c.args.bound) c.in-Err.fault
    (λ determined. subst (λ (s : Spec). IfSome texts (λ told. IsCopyMade told s tree (Err c.in-Err.fault)))
    c.bound.view_is (c.in-Err.ensures.made determined))

pub returns-in-Err-clause-table : goal.returns-in-Err-clause-table
returns-in-Err-clause-table g c =
    subst (λ (s : Spec). (name : List ℕ) → IsReadFaultOf {A = Spec} (Err c.in-Err.fault) name
    → IsCopyTable s c.args.tree.now name) c.bound.view_is
    (λ name. part_table CopyFunction (IsCopyTable c.bound.inside.spec c.args.tree.now) c.in-Err.fault name c.in-Err.ensures.table)
