use Rattle.std.proofs.Common.{subst, sym}
use Rattle.ucq_answers.specs.Lookups.{IsBound}
use Rattle.ucq_answers.proofs.Narrowing.{left_bound, right_bound}
use Rattle.ucq_answers.proofs.bounds.bound_of.Goals as goal

pub returns-then-is_variable : goal.returns-then-is_variable
returns-then-is_variable c =
    left_bound c.args.test.now c.args.var c.args.values.now c.in_ok-value.value.now
    (c.is_variable.ensures c.if-is_variable.true) (sym c.in_ok-value.ensures)

pub returns-then-is_variable-2 : goal.returns-then-is_variable-2
returns-then-is_variable-2 c =
    subst (λ k. IsBound c.args.test.now c.args.var c.args.values.now k c.in_ok-value-2.value.now) (sym c.turned.ensures)
    (right_bound c.args.test.now c.args.var c.args.values.now c.in_ok-value-2.value.now
    (c.is_variable-2.ensures c.if-is_variable-2.true) (sym c.in_ok-value-2.ensures))
