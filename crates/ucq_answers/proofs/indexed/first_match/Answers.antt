use Rattle.std.proofs.Common.{subst}
use Rattle.ucq_answers.specs.Found.{IsMatchFound}
use Rattle.ucq_answers.specs.Kept.{disjuncts_of}
use Rattle.ucq_answers.proofs.Keeping.{none_more, past_disjuncts}
use Rattle.ucq_answers.proofs.Union.{no_match}
use Rattle.ucq_answers.proofs.indexed.first_match.Goals as goal

pub returns : goal.returns
returns c = no_match c.args.relations.now (disjuncts_of c.args.disjuncts.now) c.loop-place.place c.args.tuple.now
    (past_disjuncts c.args.disjuncts.now c.loop-place.place c.loop-place-test.false) c.loop-place.invariant

pub loop-place-preserved : goal.loop-place-preserved
loop-place-preserved c =
    let p = c.index-disjuncts-place.result in
    none_more c.args.relations.now c.args.disjuncts.now c.loop-place.place p c.args.tuple.now c.loop-place-test.true
    c.index-disjuncts-place.is c.loop-place.invariant
    (subst (IsMatchFound c.args.relations.now p.disjunct c.in-Ok.number c.args.tuple.now) c.in_default-2.is c.in_ok-found.ensures)
