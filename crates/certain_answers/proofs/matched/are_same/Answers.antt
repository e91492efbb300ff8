use Rattle.certain_answers.proofs.Sameness.{same_entities}
use Rattle.certain_answers.proofs.matched.are_same.Goals as goal

pub returns : goal.returns
returns c = same_entities c.args.ones.now c.args.others.now c.eq.result c.eq.ensures
