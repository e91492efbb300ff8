use Rattle.std.proofs.Common.{◌≡◌, ◌∙◌, List, Bool, false, length, replicate, ap, sym, subst, rules}
use Rattle.log_trim.specs.Trimmed.{hints_at, Reaches}
use Rattle.log_trim.specs.Marked.{with_all, swept, IsMarkedWhere}
use Rattle.log_trim.proofs.Closure.{reached_marks, reached_marked}
use Rattle.log_trim.proofs.needs.reached_steps.Goals as goal

pub returns-clause-marked : goal.returns-clause-marked
returns-clause-marked c =
    let steps = c.args.steps.now in
    let goals = c.args.goals.now in
    let none : c.in_ok-marks.marks ≡ replicate (length steps) false = search rules in
    let start : c.mark_all.new.self ≡ with_all (replicate (length steps) false) goals =
    c.mark_all.ensures.value ∙ ap (λ (marks : List Bool). with_all marks goals) none in
    let same : c.sweep.new.marks ≡ reached_marks steps goals =
    c.sweep.ensures.value ∙ ap (λ (marks : List Bool). swept (hints_at steps) (length steps) marks) start in
    subst (λ (marks : List Bool). IsMarkedWhere marks (Reaches steps goals)) (sym same)
    (reached_marked steps goals c.requires.goals c.requires.hints)
