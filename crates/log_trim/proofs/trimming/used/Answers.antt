use Rattle.std.proofs.Common.{Bool, List, length, subst}
use Rattle.log_trim.specs.Marked.{IsMarkedWhere, IsOfMarked, vars_at}
use Rattle.log_trim.proofs.Whole.{used_are}
use Rattle.log_trim.proofs.trimming.used.Goals as goal

pub returns : goal.returns
returns c =
    used_are c.args.log.now c.args.goals.now c.args.steps.now c.in_ok-marks.marks c.in_ok-numbering.numbering
    c.requires.steps c.in_ok-marks.ensures.count
    (subst (λ (m : List Bool). IsMarkedWhere c.in_ok-marks.marks (IsOfMarked m (vars_at c.args.log.now.steps)
    (length c.args.log.now.steps)))
    c.marks.ensures c.in_ok-marks.ensures.marked)
    c.in_ok-numbering.ensures
