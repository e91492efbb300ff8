use Rattle.std.proofs.Common.{◌∙◌, All, List, ap, length, subst, sym}
use Rattle.currency_base.specs.declared.value.Value.{Value}
use Rattle.refutation_log.specs.Counted.{counted_steps}
use Rattle.refutation_log.specs.Steps.{clause_of}
use Rattle.refutation_log.specs.declared.statement.Statement.{Statement}
use Rattle.order_clauses.specs.Clauses.{AreAxioms}
use Rattle.search_logs.specs.SearchLogs.{IsPosed}
use Rattle.search_state.specs.States.{IsFit}
use Rattle.order_search.specs.Kept.{ArePlain, vars_of}
use Rattle.order_search.proofs.Beginning.{held_begun}
use Rattle.order_search.proofs.Growing.{all_plain, asked_axioms, clauses_fit, uncounted}
use Rattle.order_search.proofs.opening.solver_of.Goals as goal

pub new-requires-clause-fit : goal.new-requires-clause-fit
new-requires-clause-fit c =
    subst (λ (ss : List Statement). All (λ step. IsFit (length ss) (clause_of step)) c.in-Ok.log.steps)
    (sym c.in-Ok.ensures.statements)
    (clauses_fit c.args.subject.now c.in-Ok.log.steps (asked_axioms c.args.subject.now c.in-Ok.log.steps c.in-Ok.ensures.steps))

pub returns-in-Ok-new-clause-held : goal.returns-in-Ok-new-clause-held
returns-in-Ok-new-clause-held c =
    let s = c.args.subject.now in
    let same = c.in-Ok-new.ensures.answers ∙ c.in-Ok.ensures.answers in
    held_begun s c.in-Ok-new.solver c.requires.within
    (subst (λ (answers : List (List Value)). IsPosed (record { query = s.query; answers = answers })) (sym same) c.requires.posed)
    (c.requires.many ∙ ap (λ (answers : List (List Value)). length answers) (sym same))
    (c.in-Ok-new.ensures.statements ∙ c.in-Ok.ensures.statements)
    (subst (AreAxioms s.spec s.wanted.currents (vars_of s)) (sym c.in-Ok-new.ensures.steps) c.in-Ok.ensures.steps)

pub returns-in-Ok-new-clause-uncounted : goal.returns-in-Ok-new-clause-uncounted
returns-in-Ok-new-clause-uncounted c =
    ap counted_steps c.in-Ok-new.ensures.steps
    ∙ uncounted c.args.subject.now c.in-Ok.log.steps (asked_axioms c.args.subject.now c.in-Ok.log.steps c.in-Ok.ensures.steps)

pub returns-in-Ok-new-clause-plain : goal.returns-in-Ok-new-clause-plain
returns-in-Ok-new-clause-plain c =
    subst (ArePlain c.args.subject.now) (sym c.in-Ok-new.ensures.steps)
    (all_plain c.args.subject.now c.in-Ok.log.steps (asked_axioms c.args.subject.now c.in-Ok.log.steps c.in-Ok.ensures.steps))
