use Rattle.std.proofs.Common.{◌≡◌, ◌∙◌, List, ap, length, sym}
use Rattle.std.proofs.lemmas.Result.{on_ok_weaker}
use Rattle.refutation_log.specs.declared.statement.Statement.{Statement}
use Rattle.search_trail.specs.Trails.{Trail, values_of, whole_scope}
use Rattle.order_search.specs.Kept.{vars_of}
use Rattle.order_search.proofs.Growing.{held_same}
use Rattle.order_search.proofs.PartNumbers.{all_scope, scope_whole}
use Rattle.order_search.proofs.rounds.widen.Goals as goal

pub returns-then-scope-all-clause-scope : goal.returns-then-scope-all-clause-scope
returns-then-scope-all-clause-scope g c =
    scope_whole c.args.progress.now.solver.trail c.values-values.result.now c.scope-scope.result.now c.len-all.result
    (length (vars_of c.args.subject.now))
    (c.values-values.ensures ∙ ap (λ (t : Trail). values_of t) c.trail.ensures) c.scope-scope.ensures.value
    c.scope-scope.ensures.within c.len-all.ensures.count c.if-scope-all.true
    (c.is_solver.ensures.vars ∙ ap (λ (ss : List Statement). length ss) c.requires.search.log.statements)

pub focus-requires : goal.focus-requires
focus-requires g c =
    all_scope (length c.args.progress.now.solver.frame.statements) c.vars.result c.as_slice.result.now
    (c.vars.ensures.value ∙ sym (ap (λ (ss : List Statement). length ss) c.requires.search.log.statements))
    (c.as_slice.ensures.value ∙ c.in-Ok.ensures)

pub returns-in-Ok-clause-held : goal.returns-in-Ok-clause-held
returns-in-Ok-clause-held g c =
    held_same c.args.subject.now c.args.progress.now.solver c.focus.new.self c.args.progress.now.brought.items c.requires
    c.focus.ensures.frame c.focus.ensures.steps

pub returns-in-Ok-clause-scope : goal.returns-in-Ok-clause-scope
returns-in-Ok-clause-scope g c =
    on_ok_weaker c.focus.result (λ (is : c.focus.new.self.trail.scope ≡ c.as_slice.result.now).
    is ∙ c.as_slice.ensures.value ∙ c.in-Ok.ensures ∙ ap whole_scope c.vars.ensures.value) c.focus.ensures.scope
