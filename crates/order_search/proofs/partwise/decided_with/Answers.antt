use Rattle.std.proofs.Common.{Some, refl, arith}
use Rattle.currency_base.specs.Literals.{var_of}
use Rattle.order_search.specs.Kept.{search_of}
use Rattle.order_search.proofs.Growing.{added_then}
use Rattle.order_search.proofs.PartMade.{ends_tell, made_done}
use Rattle.order_search.proofs.TiedSteps.{scope_there}
use Rattle.order_search.proofs.partwise.decided_with.Goals as goal

pub decide_part-requires-clause-part : goal.decide_part-requires-clause-part
decide_part-requires-clause-part g c =
    scope_there c.args.subject.now c.args.parting.now c.requires.tied.members c.args.part (var_of c.args.goal) c.requires.part

pub decided_beside-requires-clause-done : goal.decided_beside-requires-clause-done
decided_beside-requires-clause-done g c =
    let there = scope_there c.args.subject.now c.args.parting.now c.requires.tied.members c.args.part (var_of c.args.goal)
    c.requires.part in
    made_done c.args.part (Some c.args.goal) c.args.parting.now c.decide_part.new.parting
    (omega (arith, there, c.requires.tied.parting.known.per_part)) (rw c.in-Ok-None.field-0-is at c.in-Ok-None.ensures.made)

pub decided_beside-requires-clause-goal : goal.decided_beside-requires-clause-goal
decided_beside-requires-clause-goal g c =
    let made = rw c.in-Ok-None.field-0-is at c.in-Ok-None.ensures.made in
    made.goal_false c.args.goal refl

pub returns-in-Ok-None-clause-added : goal.returns-in-Ok-None-clause-added
returns-in-Ok-None-clause-added g c =
    added_then c.args.progress.now.solver c.decide_part.new.progress.solver c.decided_beside.new.progress.solver
    c.decide_part.ensures.added c.decided_beside.ensures.added

pub returns-in-Ok-Some-clause-found : goal.returns-in-Ok-Some-clause-found
returns-in-Ok-Some-clause-found g c =
    ends_tell (search_of c.args.subject.now c.decide_part.new.progress.solver) (Some c.args.goal) c.decide_part.new.budget
    c.in-Ok-Some.outcome (rw c.in-Ok-Some.field-0-is at c.in-Ok-Some.ensures.ended)
