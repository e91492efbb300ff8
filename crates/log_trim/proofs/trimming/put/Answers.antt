use Rattle.log_trim.proofs.Whole.{tuples_within}
use Rattle.log_trim.proofs.trimming.put.Goals as goal

pub kept_statements-requires-clause-tuples : goal.kept_statements-requires-clause-tuples
kept_statements-requires-clause-tuples c =
    tuples_within c.args.log.now c.args.goals.now c.args.answers.now c.requires.in_place c.requires.answers
