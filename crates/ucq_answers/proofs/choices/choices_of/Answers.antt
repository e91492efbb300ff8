use Rattle.ucq_answers.specs.Found.{AllFitAt}
use Rattle.ucq_answers.proofs.Zipped.{zip_more}
use Rattle.ucq_answers.proofs.choices.choices_of.Goals as goal

pub loop-atom-preserved : goal.loop-atom-preserved
loop-atom-preserved c =
    zip_more (AllFitAt c.args.relations.now c.args.values.now) c.args.atoms.now c.loop-atom.choices.items
    c.push.new.self.items c.loop-atom.atom-index c.atom-item.result c.in_ok-fitting.field-0 c.loop-atom-test.true
    c.atom-item.is c.loop-atom.invariant c.in_ok-fitting.ensures c.in_ok-push.ensures.items
