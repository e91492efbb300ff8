use Rattle.refutation_log.specs.Follows.{IsReached}
use Rattle.log_replay.proofs.replay.check_step.Given as goal

abbrev pub invariant-loop-place : goal.invariant-loop-place
invariant-loop-place l = IsReached l.clauses l.lits l.hints l.place l.falses
