use Rattle.std.proofs.Common.{IfSome, List, Option, subst}
use Rattle.currency_base.specs.declared.value.Value.{Value}
use Rattle.common_answers.proofs.Leaving.{indexed_of, left_first, not_all_in}
use Rattle.common_answers.proofs.common.others_in.Goals as goal
use Rattle.query_model.specs.Answers.{AreAnswers}

pub returns-then-not-branch-clause-none : goal.returns-then-not-branch-clause-none
returns-then-not-branch-clause-none c =
    not_all_in c.one_current_instance.ensures c.args.spec.now.relations c.args.query.now c.args.completion.now _
    (indexed_of c.args.spec.now.relations c.args.query.now c.args.completion.now c.in_ok-instance.instance.relations _
    c.in_ok-instance.ensures c.in_ok-indexed.ensures)
    c.args.tuples.now (c.in_ok-are_answers.ensures.none c.if-not-branch.true)

pub returns-clause-some : goal.returns-clause-some
returns-clause-some c =
    let found =
    subst (λ (o : Option (List (List Value))). IfSome o
    (AreAnswers c.in_ok-indexed.indexed.query c.in_ok-indexed.indexed.instance))
    c.in-Some.is c.in_ok-answers.ensures.all in
    left_first c.one_current_instance.ensures c.args.spec.now.relations c.args.query.now c.args.completion.now _
    (indexed_of c.args.spec.now.relations c.args.query.now c.args.completion.now c.in_ok-instance.instance.relations _
    c.in_ok-instance.ensures c.in_ok-indexed.ensures)
    c.args.tuples.now c.in-Some.answers c.in_ok-others.others (c.in_ok-are_answers.ensures.are c.if-not-branch.false) found
    c.in_ok-others.ensures
