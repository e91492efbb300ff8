use Rattle.std.proofs.Common.{ℕ, List, [], refl, sym, subst}
use Rattle.refutation_log.specs.declared.step.Step.{Step}
use Rattle.watch_solver.specs.Decided.{IsStepOf}
use Rattle.watch_solver.proofs.Grown.{grown_none, grown_refuted}
use Rattle.watch_solver.proofs.Shown.{answer_empty, answer_refuted}
use Rattle.watch_solver.proofs.decision.refute.Goals as goal

pub returns-then-is_empty-clause-grown : goal.returns-then-is_empty-clause-grown
returns-then-is_empty-clause-grown g c = grown_none _ _ _ refl

pub returns-then-is_empty-clause-found : goal.returns-then-is_empty-clause-found
returns-then-is_empty-clause-found g c = λ (left : ℕ).
    answer_empty c.args.state.now c.args.goal c.args.conflict left
    (subst (λ (steps : List Step). IsStepOf steps c.args.conflict []) c.log.ensures.steps
    (c.is_empty.ensures.empty c.if-is_empty.true))

pub returns-in_err-place-clause-grown : goal.returns-in_err-place-clause-grown
returns-in_err-place-clause-grown g c = grown_none _ _ _ c.in_err-place.ensures.err

pub returns-then-is_empty-2-clause-grown : goal.returns-then-is_empty-2-clause-grown
returns-then-is_empty-2-clause-grown g c =
    grown_refuted c.args.state.now c.refute.new.self c.args.goal c.in_ok-place.ensures.ok
    c.requires.last

pub returns-else-is_empty-2-clause-grown : goal.returns-else-is_empty-2-clause-grown
returns-else-is_empty-2-clause-grown g c =
    grown_refuted c.args.state.now c.refute.new.self c.args.goal c.in_ok-place.ensures.ok
    c.requires.last

pub returns-else-is_empty-2-clause-found : goal.returns-else-is_empty-2-clause-found
returns-else-is_empty-2-clause-found g c = λ (left : ℕ).
    answer_refuted c.args.state.now c.refute.new.self c.args.goal c.in_ok-place.place left c.in_ok-place.ensures.ok
    c.in_ok-place.ensures.place c.requires.last
    (λ empty. c.is_empty-2.ensures.other c.if-is_empty-2.false
    (subst (λ (steps : List Step). IsStepOf steps c.in_ok-place.place []) (sym c.log-2.ensures.steps) empty))
