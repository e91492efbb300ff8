use Rattle.std.proofs.Common.{take}
use Rattle.log_replay.specs.Replays.{IsState}
use Rattle.log_replay.proofs.clause_state.state_of.Given as goal

abbrev pub invariant-loop-lit : goal.invariant-loop-lit
invariant-loop-lit l = IsState l.falses (take l.lit-index l.clause) l.state
