use Rattle.possible_table.proofs.Printed.{few_of, short_printed, undecided_of}
use Rattle.possible_table.proofs.telling.printed_certain.Goals as goal
use Rattle.possible_table.proofs.telling.printed_certain.Goals.{in_default-via-in-Answers+in_default, in_default-via-in_default}

pub returns-in_default-clause-job : goal.returns-in_default-clause-job
returns-in_default-clause-job c = λ determined.
    short_printed c.args.read.now.spec c.args.read.now.question c.args.budget c.args.read.now.query c.printed_brief.result
    c.printed_brief.ensures.memory determined c.args.report.now
    (few_of c.args.read.now.spec c.args.read.now.question c.args.found.now c.requires.found) c.requires.answer
    (undecided_of c.args.read.now.spec c.args.read.now.question c.args.budget c.args.report.now c.args.found.now c.requires.asks
    c.requires.answer c.requires.found
    (λ tuples is. elim c.in_default.branch [
      | in_default-via-in-Answers+in_default w ↦ w.in_default.not-Answers-1 tuples is
      | in_default-via-in_default w ↦ w.in_default.not-Answers-0 c.requires.asks.0 c.requires.asks.1
    ])) c.printed_brief.ensures.printed
