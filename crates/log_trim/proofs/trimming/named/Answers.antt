use Rattle.std.proofs.Common.{Bool, List, length, subst}
use Rattle.log_trim.specs.Marked.{IsMarkedWhere, IsOfMarked, answers_at}
use Rattle.log_trim.proofs.Whole.{named_are}
use Rattle.log_trim.proofs.trimming.named.Goals as goal

pub returns : goal.returns
returns c =
    named_are c.args.log.now c.args.goals.now c.args.statements.now c.in_ok-marks.marks c.in_ok-numbering.numbering
    c.requires.statements c.in_ok-marks.ensures.count
    (subst (λ (m : List Bool). IsMarkedWhere c.in_ok-marks.marks
    (IsOfMarked m (answers_at c.args.log.now.statements) (length c.args.log.now.statements)))
    c.marks.ensures c.in_ok-marks.ensures.marked)
    c.in_ok-numbering.ensures
