use Rattle.std.proofs.Common.{◌∙◌, ℕ, List, length, ap}
use Rattle.refutation_log.specs.declared.statement.Statement.{Statement}
use Rattle.order_search.proofs.Models.{counter_of, model_is, model_true}
use Rattle.order_search.proofs.rounds.modelled.Goals as goal

pub completed-requires-clause-whole : goal.completed-requires-clause-whole
completed-requires-clause-whole g c =
    let model = model_is c.whole_scope_gives_models.ensures c.args.subject.now c.args.progress.now.solver
    c.args.progress.now.brought.items c.in-Ok.truths c.args.goal c.requires.held c.requires.scope c.is_solver.ensures.vars
    c.is_solver.ensures.fit (rw c.trail.ensures at c.are_entries.ensures) c.requires.model c.in-Ok.ensures in
    model.whole ∙ ap (λ (ss : List Statement). length ss) c.requires.held.search.log.statements

pub completed-requires-clause-holds : goal.completed-requires-clause-holds
completed-requires-clause-holds g c =
    let solver = c.args.progress.now.solver in
    let model = model_is c.whole_scope_gives_models.ensures c.args.subject.now solver
    c.args.progress.now.brought.items c.in-Ok.truths c.args.goal c.requires.held c.requires.scope c.is_solver.ensures.vars
    c.is_solver.ensures.fit (rw c.trail.ensures at c.are_entries.ensures) c.requires.model c.in-Ok.ensures in
    model_true (length solver.frame.statements) solver.steps c.args.goal c.in-Ok.truths c.is_solver.ensures.fit model

pub returns-in-Ok-Some-clause-some : goal.returns-in-Ok-Some-clause-some
returns-in-Ok-Some-clause-some g c = λ (left : ℕ).
    let solver = c.args.progress.now.solver in
    let model = model_is c.whole_scope_gives_models.ensures c.args.subject.now solver
    c.args.progress.now.brought.items c.in-Ok.truths c.args.goal c.requires.held c.requires.scope c.is_solver.ensures.vars
    c.is_solver.ensures.fit (rw c.trail.ensures at c.are_entries.ensures) c.requires.model c.in-Ok.ensures in
    counter_of c.args.subject.now (length solver.frame.statements) solver c.completed.new.progress.solver c.args.goal
    c.in-Ok.truths c.in-Ok-Some.completion model
    (rw c.in-Ok-Some.field-0-is at c.in-Ok-Some.ensures.kept)
    (rw c.in-Ok-Some.field-0-is at c.in-Ok-Some.ensures.some)
