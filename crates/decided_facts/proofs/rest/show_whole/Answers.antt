use Rattle.decided_facts.proofs.Showing.{consistent_more, without_of}
use Rattle.decided_facts.proofs.rest.show_whole.Goals as goal

pub returns-in-Ok-Fails-clause-consistent : goal.returns-in-Ok-Fails-clause-consistent
returns-in-Ok-Fails-clause-consistent g c =
    consistent_more c.args.task.now.spec.now c.in-Ok-Fails.completion c.args.completions.now.items c.list.new.completions.items
    c.requires.consistent (without_of c.args.task.now.spec.now c.in_ok-question.question c.args.task.now.budget
    c.in-Ok-Fails.field-0 c.in-Ok-Fails.completion c.in-Ok-Fails.field-0-is c.in-Ok-Fails.ensures).consistent
    c.in_ok-one-in-Ok-Fails.ensures.listed
