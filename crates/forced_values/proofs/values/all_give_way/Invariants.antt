-- The rows so far give way.
use Rattle.std.proofs.Common.{All, take}
use Rattle.forced_values.specs.Values.{GivesWay}
use Rattle.forced_values.proofs.values.all_give_way.Given as goal

abbrev pub invariant-loop-row : goal.invariant-loop-row
invariant-loop-row l = All (GivesWay l.closure.spec l.claim l.table) (take l.row-index l.rows)
