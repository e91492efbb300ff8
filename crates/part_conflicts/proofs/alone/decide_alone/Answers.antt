use Rattle.part_conflicts.proofs.Judged.{listed, no_unit, not_too_many, open_with, passed, undecided}
use Rattle.part_conflicts.proofs.alone.decide_alone.Goals as goal

pub returns-in_ok-push-in-Ok-Inconsistent : goal.returns-in_ok-push-in-Ok-Inconsistent
returns-in_ok-push-in-Ok-Inconsistent g c =
    listed c.args.part c.args.budget _ c.in-Ok-Inconsistent.ensures c.in-Ok-Inconsistent.needed c.args.found.now
    c.push.new.self c.in-Ok-Inconsistent.field-0-is c.in_ok-push-in-Ok-Inconsistent.ensures.ok

pub unreachable-requires : goal.unreachable-requires
unreachable-requires g c =
    no_unit c.args.part c.args.budget _ c.in-Ok-Unit.ensures _ c.in-Ok-Unit.field-0-is

pub returns-in-Ok-NoUnit : goal.returns-in-Ok-NoUnit
returns-in-Ok-NoUnit g c =
    passed c.args.part c.args.budget _ c.in-Ok-NoUnit.ensures _ c.args.found.now c.in-Ok-NoUnit.field-0-is

pub unreachable-requires-in-Ok-TooMany : goal.unreachable-requires-in-Ok-TooMany
unreachable-requires-in-Ok-TooMany g c =
    not_too_many c.args.part c.args.budget _ c.in-Ok-TooMany.ensures _ c.in-Ok-TooMany.field-0-is

pub returns-in-Ok-Undecided : goal.returns-in-Ok-Undecided
returns-in-Ok-Undecided g c =
    undecided c.args.part c.args.budget _ c.in-Ok-Undecided.ensures c.in-Ok-Undecided.report c.args.found.now
    c.args.found.now c.in-Ok-Undecided.field-0-is

pub returns-in-Ok-Open : goal.returns-in-Ok-Open
returns-in-Ok-Open g c =
    open_with c.args.part c.args.budget _ c.in-Ok-Open.ensures c.in-Ok-Open.spent c.args.found.now c.args.found.now
    c.in-Ok-Open.field-0-is
