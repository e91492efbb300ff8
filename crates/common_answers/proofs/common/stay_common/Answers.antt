use Rattle.common_answers.proofs.Leaving.{indexed_of, left_more, not_all_in}
use Rattle.common_answers.proofs.common.stay_common.Goals as goal

pub returns-then-not-branch-clause-none : goal.returns-then-not-branch-clause-none
returns-then-not-branch-clause-none c = λ e.
    not_all_in c.one_current_instance.ensures c.args.spec.now.relations c.args.query.now c.args.completion.now _
    (indexed_of c.args.spec.now.relations c.args.query.now c.args.completion.now c.in_ok-instance.instance.relations _
    c.in_ok-instance.ensures c.in_ok-indexed.ensures)
    c.args.tuples.now (c.in_ok-are_answers.ensures.none c.if-not-branch.true)

pub returns-clause-are : goal.returns-clause-are
returns-clause-are c = λ e.
    left_more c.one_current_instance.ensures c.args.spec.now.relations c.args.query.now c.args.completion.now _
    (indexed_of c.args.spec.now.relations c.args.query.now c.args.completion.now c.in_ok-instance.instance.relations _
    c.in_ok-instance.ensures c.in_ok-indexed.ensures)
    c.args.tuples.now c.args.others.now c.keep.new.self (c.in_ok-are_answers.ensures.are c.if-not-branch.false)
    c.in_ok-keep.ensures
