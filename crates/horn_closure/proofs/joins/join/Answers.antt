use Rattle.horn_closure.proofs.JoinFacts.{joined_more}
use Rattle.horn_closure.proofs.joins.join.Goals as goal

pub loop-other-preserved : goal.loop-other-preserved
loop-other-preserved c = record {
  cells = cc;
  joined = joined_more _ _ _ _ _ _ _ c.loop-other.invariant.joined c.in_ok-join_ahead.ensures.ok c.in_ok-join_behind.ensures.ok;
}
