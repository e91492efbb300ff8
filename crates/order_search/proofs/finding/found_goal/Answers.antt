use Rattle.order_search.proofs.Growing.{tied_with}
use Rattle.order_search.proofs.finding.found_goal.Goals as goal

pub found_in_part-requires-in-Ok-None-clause-tied : goal.found_in_part-requires-in-Ok-None-clause-tied
found_in_part-requires-in-Ok-None-clause-tied g c =
    tied_with c.args.subject.now c.args.parting.now c.args.progress.now.solver.steps c.told_known.new.progress.solver.steps
    c.requires.tied c.told_known.ensures.tied

pub returns-in-Ok-Some-clause-tied : goal.returns-in-Ok-Some-clause-tied
returns-in-Ok-Some-clause-tied g c =
    tied_with c.args.subject.now c.args.parting.now c.args.progress.now.solver.steps c.told_known.new.progress.solver.steps
    c.requires.tied c.told_known.ensures.tied

pub returns-in-Err-clause-tied : goal.returns-in-Err-clause-tied
returns-in-Err-clause-tied g c =
    tied_with c.args.subject.now c.args.parting.now c.args.progress.now.solver.steps c.told_known.new.progress.solver.steps
    c.requires.tied c.told_known.ensures.tied
