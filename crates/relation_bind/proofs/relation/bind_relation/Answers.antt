use Rattle.std.proofs.Common.{◌∙◌, ap, subst, Err}
use Rattle.std.proofs.lemmas.Result.{err_from_is_err_and}
use Rattle.spec_model.specs.declared.relation.Relation.{Relation}
use Rattle.bind_faults.specs.Faults.{IsReadFault}
use Rattle.relation_bind.proofs.Heads.{head_reads}
use Rattle.relation_bind.proofs.Declaring.{head_refused, table_refused, relation_read, head_not_read, table_not_given}
use Rattle.relation_bind.proofs.relation.bind_relation.Goals as goal

pub returns-in_err-names-clause-declared : goal.returns-in_err-names-clause-declared
returns-in_err-names-clause-declared g c =
    let p = err_from_is_err_and c.from_residual.result c.from_residual.ensures.1 in
    λ determined. head_refused (g.S.Shelf.texts c.args.shelf.now) c.args.taken.now c.args.declaration.now
    c.in_err-names.field-0.0 c.from_residual.result
    c.in_err-names.ensures (p.1 ∙ ap Err p.2) determined

pub returns-in_err-rows-clause-declared : goal.returns-in_err-rows-clause-declared
returns-in_err-rows-clause-declared g c =
    let p = err_from_is_err_and c.from_residual-in_err-rows.result c.from_residual-in_err-rows.ensures.1 in
    λ determined. table_refused (g.S.Shelf.texts c.args.shelf.now) c.args.taken.now c.args.declaration.now
    c.in_ok-names.names c.in_err-rows.field-0.0 c.from_residual-in_err-rows.result
    c.in_ok-names.ensures c.in_err-rows.ensures.table (p.1 ∙ ap Err p.2) determined

pub returns-in-Ok-clause-declared : goal.returns-in-Ok-clause-declared
returns-in-Ok-clause-declared g c =
    λ determined. relation_read (g.S.Shelf.texts c.args.shelf.now) c.args.taken.now c.args.declaration.now
    c.in_ok-names.names c.in_ok-rows.rows c.in-Ok.relation
    c.in_ok-names.ensures (c.in_ok-rows.ensures.table tt) c.in-Ok.ensures

pub returns-in_err-names-clause-read_fault : goal.returns-in_err-names-clause-read_fault
returns-in_err-names-clause-read_fault g c =
    let p = err_from_is_err_and c.from_residual.result c.from_residual.ensures.1 in
    λ fault. absurd (head_reads c.args.taken.now c.args.declaration.now c.in_err-names.field-0.0 c.in_err-names.ensures
    (subst (IsReadFault {A = Relation}) (p.1 ∙ ap Err p.2) fault))

pub returns-in_err-names-clause-table : goal.returns-in_err-names-clause-table
returns-in_err-names-clause-table g c =
    let p = err_from_is_err_and c.from_residual.result c.from_residual.ensures.1 in
    λ table fault. absurd (head_not_read c.args.taken.now c.args.declaration.now c.in_err-names.field-0.0 c.from_residual.result
    c.in_err-names.ensures (p.1 ∙ ap Err p.2) table fault)

pub returns-in_err-rows-clause-table : goal.returns-in_err-rows-clause-table
returns-in_err-rows-clause-table g c =
    let p = err_from_is_err_and c.from_residual-in_err-rows.result c.from_residual-in_err-rows.ensures.1 in
    table_not_given c.args.taken.now c.args.declaration.now c.in_ok-names.names c.in_err-rows.field-0.0
    c.from_residual-in_err-rows.result
    c.in_ok-names.ensures c.in_err-rows.ensures.names_it (p.1 ∙ ap Err p.2)
