use Rattle.unit_questions.specs.Substituted.{given_value}
use Rattle.unit_questions.proofs.Walks.{fits_not}
use Rattle.unit_questions.proofs.given.fits_head.Goals as goal

pub returns-then-head-tuple : goal.returns-then-head-tuple
returns-then-head-tuple c =
    fits_not (given_value c.args.head.now c.args.tuple.now) c.args.head.now c.args.tuple.now c.if-head-tuple.true
