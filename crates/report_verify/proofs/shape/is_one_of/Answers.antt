use Rattle.std.proofs.Common.{sym, subst}
use Rattle.report_verify.proofs.shape.is_one_of.Goals as goal
use Rattle.report_verify.specs.Supported.{IsOneOf}

pub returns-in-NotCertain-clause-is : goal.returns-in-NotCertain-clause-is
returns-in-NotCertain-clause-is c = λ e.
    subst (IsOneOf c.args.spec.now c.args.question.now) (sym c.in-NotCertain.is) (c.asks_pair.ensures.is e c.args.spec.now)

pub returns-in-NotCertain-clause-other : goal.returns-in-NotCertain-clause-other
returns-in-NotCertain-clause-other c = λ e one.
    c.asks_pair.ensures.other e c.args.spec.now (subst (IsOneOf c.args.spec.now c.args.question.now) c.in-NotCertain.is one)

pub returns-in-NotSame-clause-is : goal.returns-in-NotSame-clause-is
returns-in-NotSame-clause-is c = λ e.
    subst (IsOneOf c.args.spec.now c.args.question.now) (sym c.in-NotSame.is)
    (c.asks_relation.ensures.is e c.args.spec.now c.in-NotSame.attr c.in-NotSame.ent)

pub returns-in-NotSame-clause-other : goal.returns-in-NotSame-clause-other
returns-in-NotSame-clause-other c = λ e one.
    c.asks_relation.ensures.other e c.args.spec.now c.in-NotSame.attr c.in-NotSame.ent
    (subst (IsOneOf c.args.spec.now c.args.question.now) c.in-NotSame.is one)

pub returns-in-Answers-clause-is : goal.returns-in-Answers-clause-is
returns-in-Answers-clause-is c = λ e.
    subst (IsOneOf c.args.spec.now c.args.question.now) (sym c.in-Answers.is) (c.asks_answers.ensures.is e c.args.spec.now)

pub returns-in-Answers-clause-other : goal.returns-in-Answers-clause-other
returns-in-Answers-clause-other c = λ e one.
    c.asks_answers.ensures.other e c.args.spec.now (subst (IsOneOf c.args.spec.now c.args.question.now) c.in-Answers.is one)
