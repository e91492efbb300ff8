use Rattle.horn_closure.proofs.ClosedFacts.{up_to_more}
use Rattle.horn_closure.proofs.closing.close.Goals as goal

pub loop-next-preserved : goal.loop-next-preserved
loop-next-preserved c = record {
  cells = cc;
  closed = up_to_more _ _ _ _ _ _ _ c.loop-next.invariant.closed c.in_ok-go_over.ensures.ok;
}
