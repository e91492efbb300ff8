use Rattle.std.proofs.Common.{ℕ, Contains, subst, arith}
use Rattle.order_search.specs.Tied.{scope_in}
use Rattle.order_search.proofs.Growing.{tied_with}
use Rattle.order_search.proofs.finding.found_in_part.Goals as goal

pub decided_with-requires-clause-part : goal.decided_with-requires-clause-part
decided_with-requires-clause-part g c =
    subst (λ (var : ℕ). Contains (scope_in c.args.parting.now c.in-Some.part) var) c.var.ensures.value
    c.in-Some.ensures

pub part_with-requires-clause-var : goal.part_with-requires-clause-var
part_with-requires-clause-var g c = omega (arith, c.requires.goal, c.var.ensures.value)

pub returns-in-None-clause-tied : goal.returns-in-None-clause-tied
returns-in-None-clause-tied g c =
    tied_with c.args.subject.now c.args.parting.now c.args.progress.now.solver.steps c.decided.new.progress.solver.steps
    c.requires.tied c.decided.ensures.tied
