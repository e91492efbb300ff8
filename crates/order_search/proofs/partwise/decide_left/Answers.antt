use Rattle.std.proofs.Common.{None, arith}
use Rattle.order_search.specs.Kept.{search_of}
use Rattle.order_search.specs.Made.{IsMade}
use Rattle.order_search.specs.Parts.{Ends}
use Rattle.order_search.proofs.PartMade.{ended_then, ends_none, goal_after, kept_after, made_done, made_or_same, none_then, same_after}
use Rattle.order_search.proofs.partwise.decide_left.Goals as goal

pub returns-clause-goal : goal.returns-clause-goal
returns-clause-goal g c =
    goal_after c.variables_have_parts.ensures.disjoint c.variables_have_parts.ensures.answers c.args.subject.now c.args.part
    c.args.own c.args.goal c.args.parting.now c.decide_part.new.parting c.requires.tied.parting.parts c.requires.tied.members
    (made_or_same c.decide_part.result c.decide_part.ensures.made c.decide_part.ensures.stays c.decide_part.ensures.err)
    (c.is_own.ensures.no c.if-is_own.false) c.requires.goal

pub returns-clause-same : goal.returns-clause-same
returns-clause-same g c =
    same_after c.args.part None c.args.parting.now c.decide_part.new.parting
    (made_or_same c.decide_part.result c.decide_part.ensures.made c.decide_part.ensures.stays c.decide_part.ensures.err)

pub returns-clause-done : goal.returns-clause-done
returns-clause-done g c =
    none_then c.decide_part.result (λ (made : IsMade c.args.part None c.args.parting.now c.decide_part.new.parting).
    made_done c.args.part None c.args.parting.now c.decide_part.new.parting
    (omega (arith, c.requires.part, c.requires.tied.parting.known.per_part)) made)
    c.decide_part.ensures.made

pub returns-clause-kept : goal.returns-clause-kept
returns-clause-kept g c =
    kept_after c.args.part None c.args.parting.now c.decide_part.new.parting
    (made_or_same c.decide_part.result c.decide_part.ensures.made c.decide_part.ensures.stays c.decide_part.ensures.err)

pub returns-clause-ended : goal.returns-clause-ended
returns-clause-ended g c =
    let s = search_of c.args.subject.now c.decide_part.new.progress.solver in
    let left = c.decide_part.new.budget in
    ended_then (Ends s None left) (Ends s c.args.goal left) c.decide_part.result
    (λ outcome ends. ends_none s c.args.goal left outcome ends) c.decide_part.ensures.ended
