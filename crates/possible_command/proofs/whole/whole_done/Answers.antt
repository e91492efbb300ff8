use Rattle.possible_command.proofs.Tellings.{left_open}
use Rattle.possible_command.proofs.whole.whole_done.Goals as goal

pub returns-in-Some : goal.returns-in-Some
returns-in-Some g c =
    left_open c.args.spec.now c.args.budget c.args.found.now c.in-Some.left.place c.in-Some.left.report c.get.result.now
    c.left_done.result c.get.ensures (rw c.in-Some.is at c.in_ok-add_findings.ensures.left) c.left_done.ensures
