use Rattle.std.proofs.Common.{subst}
use Rattle.ucq_answers.specs.Found.{FitsAt, IsEntity}
use Rattle.ucq_answers.proofs.Zipped.{zip_more}
use Rattle.ucq_answers.proofs.matching.entities_of.Goals as goal

pub loop-atom-preserved : goal.loop-atom-preserved
loop-atom-preserved c =
    let instance = c.args.relations.now in
    let b = c.args.values.now in
    let fits = subst (IsEntity instance b c.atom-item.result) c.in-Some.is c.in_ok-ent.ensures in
    zip_more (FitsAt instance b) c.args.atoms.now c.loop-atom.entities c.push.new.self c.loop-atom.atom-index
    c.atom-item.result c.in-Some.ent c.loop-atom-test.true c.atom-item.is
    c.loop-atom.invariant fits c.in_ok-push.ensures.ok
