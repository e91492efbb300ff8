use Rattle.order_search.proofs.Matched.{match_fit, match_put}
use Rattle.order_search.proofs.TiedSteps.{answer_at}
use Rattle.order_search.proofs.matching.put_match.Goals as goal

pub add_clause-requires : goal.add_clause-requires
add_clause-requires g c = record {
  fit = match_fit c.args.subject.now c.args.completion.now c.args.m.now c.args.answer c.requires.is_match
      c.args.solver.now.frame.statements
      c.requires.statements c.in_ok-lits.lits c.as_slice-4.result.now c.in_ok-lits.ensures c.as_slice-4.ensures;
}

pub returns-clause-ok : goal.returns-clause-ok
returns-clause-ok g c =
    match_put c.args.subject.now c.args.parts.now c.home_of-home.result c.var-var.result c.args.completion.now c.args.m.now
    c.args.answer c.args.counted c.in_ok-lits.lits c.as_slice-4.result.now c.as_slice.result.now c.as_slice-2.result.now
    c.as_slice-3.result.now c.args.solver.now.steps c.add_clause.new.self.steps c.in_ok-lits.ensures c.as_slice-4.ensures
    c.as_slice-2.ensures c.as_slice-3.ensures c.in_ok-add_clause.ensures.ok
    (answer_at c.args.subject.now c.args.answer c.answer.result c.var-var.result c.answer.ensures c.var-var.ensures.value)
    c.as_slice.ensures c.home_of-home.ensures
