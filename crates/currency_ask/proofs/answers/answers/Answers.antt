use Rattle.std.proofs.Common.{Err, ap}
use Rattle.currency_ask.proofs.Searched.{same_fault, too_many_first}
use Rattle.currency_ask.proofs.answers.answers.Goals as goal

pub returns-in-Err-clause-too_many : goal.returns-in-Err-clause-too_many
returns-in-Err-clause-too_many g c = λ found e.
    let made = c.in-Err.ensures.too_many found
    (ap Err (c.of_candidates.ensures found (same_fault c.of_candidates.result found e))) in
    too_many_first c.args.spec.now c.args.query.now c.args.first found c.requires.first made.0 made.1
