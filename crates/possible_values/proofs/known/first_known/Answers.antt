use Rattle.std.proofs.Common.{Err, ap}
use Rattle.report_verify.specs.Asked.{query_of}
use Rattle.possible_values.proofs.Telling.{no_answers}
use Rattle.possible_values.proofs.known.first_known.Goals as goal

pub wanting-requires : goal.wanting-requires
wanting-requires g c = λ found is.
    no_answers c.args.spec.now c.args.question.now found (ap query_of c.in-Same.is)
    (c.in-Err.ensures.too_many found (ap Err is))

pub returns-in_default : goal.returns-in_default
returns-in_default g c = c.some.ensures c.args.question.now
