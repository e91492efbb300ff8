use Rattle.ucq_answers.specs.Found.{IsOneOf}
use Rattle.ucq_answers.proofs.Several.{one_of}
use Rattle.ucq_answers.proofs.Zipped.{zip_more}
use Rattle.ucq_answers.proofs.choices.choice.Goals as goal

pub loop-ents-preserved : goal.loop-ents-preserved
loop-ents-preserved c =
    zip_more IsOneOf c.args.choices.now c.loop-ents.chosen c.push.new.self c.loop-ents.ents-index c.ents-item.result
    c.get.result.now c.loop-ents-test.true c.ents-item.is c.loop-ents.invariant
    (one_of c.ents-item.result _ c.get.result.now c.get.ensures) c.in_ok-push.ensures.ok
