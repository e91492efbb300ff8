use Rattle.conflicts_command.proofs.FoundTexts.{found_is_printed}
use Rattle.conflicts_command.proofs.OwnItems.{is_writable}
use Rattle.conflicts_command.specs.Found.{conflicts_said}
use Rattle.conflicts_command.proofs.finding.printed_conflicts.Goals as goal

pub printed_found-requires : goal.printed_found-requires
printed_found-requires g c =
    is_writable c.args.spec.now c.args.asked.budget c.in-Ok.found c.in-Ok.ensures

pub returns-in-Ok-clause-job : goal.returns-in-Ok-clause-job
returns-in-Ok-clause-job g c =
    found_is_printed c.args.spec.now (conflicts_said c.args.asked) c.in-Ok.found c.printed_found.result c.in-Ok.ensures
    c.printed_found.ensures.printed c.printed_found.ensures.memory
