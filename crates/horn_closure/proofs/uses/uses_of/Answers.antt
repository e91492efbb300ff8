use Rattle.std.proofs.Common.{◌≤◌, length, arith}
use Rattle.horn_closure.proofs.UseFacts.{uses_more, uses_all}
use Rattle.horn_closure.proofs.uses.uses_of.Goals as goal

pub loop-clause-preserved : goal.loop-clause-preserved
loop-clause-preserved c = record {
  cells = cc;
  uses = uses_more _ _ _ _ _ _ _ c.get.ensures c.loop-clause.invariant.uses c.in_ok-add_uses.ensures.ok;
}

pub returns-clause-uses : goal.returns-clause-uses
returns-clause-uses c =
    let all : length c.args.clauses.now.premises ≤ c.loop-clause.clause =
    omega (arith, c.len-clause-end.ensures, c.loop-clause-test.false) in
    uses_all _ _ _ _ all c.loop-clause.invariant.uses
