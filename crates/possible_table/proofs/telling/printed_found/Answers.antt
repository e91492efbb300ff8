use Rattle.possible_table.proofs.Printed.{many_printed}
use Rattle.possible_table.proofs.telling.printed_found.Goals as goal

pub returns-in-Err-clause-job : goal.returns-in-Err-clause-job
returns-in-Err-clause-job g c = λ determined.
    many_printed c.args.read.now.spec c.args.read.now.question c.args.budget c.args.read.now.query c.args.found.now c.in-Err.trouble
    c.requires.found c.in-Err.ensures.too_many determined
