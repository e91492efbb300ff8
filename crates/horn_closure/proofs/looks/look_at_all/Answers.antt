use Rattle.horn_closure.proofs.LookFacts.{all_more}
use Rattle.horn_closure.proofs.looks.look_at_all.Goals as goal

pub loop-clause-preserved : goal.loop-clause-preserved
loop-clause-preserved c = record {
  cells = cc;
  looked = all_more _ _ _ _ _ _ c.loop-clause.invariant.looked c.in_ok-look.ensures.ok;
}
