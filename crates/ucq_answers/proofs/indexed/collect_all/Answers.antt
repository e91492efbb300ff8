use Rattle.ucq_answers.specs.Kept.{disjuncts_of}
use Rattle.ucq_answers.proofs.Keeping.{at_disjunct, disjuncts_within, past_disjuncts, prepared_at}
use Rattle.ucq_answers.proofs.Union.{union_all, union_more, union_none, union_stopped}
use Rattle.ucq_answers.proofs.indexed.collect_all.Goals as goal

pub loop-prepared-init : goal.loop-prepared-init
loop-prepared-init c = union_none c.args.relations.now c.args.answers.now

pub collect_disjunct-requires : goal.collect_disjunct-requires
collect_disjunct-requires c = prepared_at c.args.relations.now c.args.disjuncts.now c.loop-prepared.prepared-index
    c.prepared-item.result c.loop-prepared-test.true c.prepared-item.is c.requires

pub returns-then-branch : goal.returns-then-branch
returns-then-branch c =
    union_stopped c.args.relations.now (disjuncts_of c.args.disjuncts.now) c.loop-prepared.prepared-index
    c.prepared-item.result.disjunct c.args.answers.now c.loop-prepared.answers c.collect_disjunct.new.answers
    c.in_ok-collect_disjunct.field-0
    (disjuncts_within c.args.disjuncts.now c.loop-prepared.prepared-index c.loop-prepared-test.true)
    (at_disjunct c.args.disjuncts.now c.loop-prepared.prepared-index c.prepared-item.result c.prepared-item.is) c.if-branch.true
    c.loop-prepared.invariant c.in_ok-collect_disjunct.ensures

pub loop-prepared-preserved : goal.loop-prepared-preserved
loop-prepared-preserved c =
    union_more c.args.relations.now (disjuncts_of c.args.disjuncts.now) c.loop-prepared.prepared-index
    c.prepared-item.result.disjunct c.args.answers.now c.loop-prepared.answers c.collect_disjunct.new.answers
    c.in_ok-collect_disjunct.field-0
    (disjuncts_within c.args.disjuncts.now c.loop-prepared.prepared-index c.loop-prepared-test.true)
    (at_disjunct c.args.disjuncts.now c.loop-prepared.prepared-index c.prepared-item.result c.prepared-item.is) c.if-branch.false
    c.loop-prepared.invariant c.in_ok-collect_disjunct.ensures

pub returns : goal.returns
returns c =
    union_all c.args.relations.now (disjuncts_of c.args.disjuncts.now) c.loop-prepared.prepared-index c.args.answers.now
    c.loop-prepared.answers (past_disjuncts c.args.disjuncts.now c.loop-prepared.prepared-index c.loop-prepared-test.false)
    c.loop-prepared.invariant
