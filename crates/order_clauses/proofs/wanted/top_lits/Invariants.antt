use Rattle.std.proofs.Common.{[], ◌∷◌, ◌++◌, take}
use Rattle.std.specs.List.{flat_map}
use Rattle.order_literals.specs.Said.{top}
use Rattle.order_clauses.specs.Added.{Tells}
use Rattle.order_clauses.specs.Listing.{other_said}
use Rattle.order_clauses.specs.Subject.{variables}
use Rattle.order_clauses.proofs.wanted.top_lits.Given as goal

abbrev pub invariant-loop-other : goal.invariant-loop-other
invariant-loop-other l = Tells (variables l.column.subject) (top l.column.rel l.column.attr l.row ∷ []
    ++ flat_map (other_said l.column l.row) (take l.other-index l.other-items)) [] l.lits.items
