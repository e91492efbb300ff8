use Rattle.std.proofs.Common.{subst, sym}
use Rattle.answer_candidates.specs.Candidates.{AreAnswersIn, AreCandidates}
use Rattle.answer_candidates.proofs.Noting.{candidates_begun}
use Rattle.answer_candidates.proofs.candidates.Candidates.new.Goals as goal

pub returns-in-Ok-clause-held : goal.returns-in-Ok-clause-held
returns-in-Ok-clause-held c =
    let found : AreAnswersIn c.args.spec.now.relations c.args.query.now c.args.completion c.in-Ok-Some.tuples =
    rw c.in-Ok-Some.field-0-is at c.in-Ok-Some.ensures.found in
    subst (AreCandidates c.args.spec.now c.args.query.now) (sym c.in-Ok.ensures)
    (candidates_begun c.instances_exist.ensures.one c.args.spec.now c.args.query.now c.args.completion
    c.in-Ok-Some.tuples c.requires.consistent found)
