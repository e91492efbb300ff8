use Rattle.std.proofs.Common.{take}
use Rattle.std.specs.List.{flat_map}
use Rattle.order_clauses.specs.Added.{Adds}
use Rattle.order_clauses.specs.Listing.{row_labels}
use Rattle.order_clauses.proofs.wanted.of_entity.Given as goal

abbrev pub invariant-loop-row : goal.invariant-loop-row
invariant-loop-row l = Adds l.column.subject (flat_map (row_labels l.column l.ent.0) (take l.row-index l.row-items))
    l.initial.steps l.steps
