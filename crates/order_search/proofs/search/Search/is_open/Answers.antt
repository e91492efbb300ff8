use Rattle.std.proofs.Common.{length, subst, sym}
use Rattle.refutation_log.specs.Counted.{IsOpenLog}
use Rattle.order_search.specs.Searches.{AreClausesTrue, Search}
use Rattle.order_search.proofs.Falsified.{open_where}
use Rattle.order_search.proofs.search.Search.is_open.Goals as goal

pub returns : goal.returns
returns c =
    let solver = c.self.inside.progress.solver in
    let all = subst (λ (s : Search). AreClausesTrue c.args.truths.now s.log.steps) (sym c.self.view_is) c.requires in
    subst (λ (s : Search). IsOpenLog s.log.steps) c.self.view_is
    (open_where c.args.truths.now solver.steps (length solver.frame.statements) c.is_solver.ensures.fit all)
