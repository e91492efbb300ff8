use Rattle.possible_command.specs.Possible.{possible_said}
use Rattle.possible_command.proofs.Tellings.{is_within, is_writable, possible_is_printed}
use Rattle.possible_command.proofs.finding.reply.Goals as goal

pub printed_possible-requires-clause-found : goal.printed_possible-requires-clause-found
printed_possible-requires-clause-found g c =
    is_writable c.completions_are_writable.ensures c.args.spec.now
    (is_within c.args.spec.now c.is_specification.ensures c.requires.within) c.args.question.now c.requires.question
    c.args.asked.budget c.in-Ok.found c.in-Ok.ensures

pub returns-in-Ok-clause-job : goal.returns-in-Ok-clause-job
returns-in-Ok-clause-job g c =
    possible_is_printed c.args.spec.now (possible_said c.args.asked) c.args.question.now c.in-Ok.found c.printed_possible.result
    c.in-Ok.ensures c.printed_possible.ensures.printed
