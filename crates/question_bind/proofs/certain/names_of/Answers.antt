use Rattle.question_bind.proofs.Known.{named_few}
use Rattle.question_bind.proofs.certain.names_of.Goals as goal

pub returns : goal.returns
returns c = named_few c.of.result c.args.spec.now c.of.ensures c.relations-relations.ensures.facts
