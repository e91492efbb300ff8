use Rattle.std.proofs.Common.{rules}
use Rattle.ucq_answers.proofs.Several.{adds_pushed}
use Rattle.ucq_answers.proofs.match_set.MatchSet.add.Goals as goal

pub returns : goal.returns
returns c = adds_pushed c.args.self.now _ c.args.one (search rules) (search rules)
