use Rattle.std.proofs.Common.{take}
use Rattle.std.specs.List.{flat_map}
use Rattle.order_clauses.specs.Added.{Adds}
use Rattle.order_clauses.specs.Listing.{above_label}
use Rattle.order_clauses.proofs.wanted.above.Given as goal

abbrev pub invariant-loop-other : goal.invariant-loop-other
invariant-loop-other l = Adds l.column.subject
    (flat_map (above_label l.column l.row) (take l.other-index l.other-items)) l.initial.steps l.steps
