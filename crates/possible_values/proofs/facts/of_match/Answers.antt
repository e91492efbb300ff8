use Rattle.possible_values.proofs.Placing.{asked_placed}
use Rattle.possible_values.proofs.facts.of_match.Goals as goal

pub returns-clause-posable : goal.returns-clause-posable
returns-clause-posable c =
    asked_placed c.args.looks.now c.requires.few c.args.question.now c.in-Answers.query c.args.one.now
    c.in_ok-claims_of-in-Answers.field-0 c.in-Answers.is c.requires.one c.in_ok-claims_of-in-Answers.ensures
