use Rattle.std.proofs.Common.{[], ◌∷◌, ◌++◌, take}
use Rattle.std.specs.List.{flat_map}
use Rattle.order_literals.specs.Said.{not_last}
use Rattle.order_clauses.specs.Added.{Tells}
use Rattle.order_clauses.specs.Listing.{alike_said}
use Rattle.order_clauses.specs.Subject.{variables}
use Rattle.order_clauses.proofs.wanted.value_lits.Given as goal

abbrev pub invariant-loop-other : goal.invariant-loop-other
invariant-loop-other l = Tells (variables l.column.subject) (not_last l.column.rel l.column.attr l.row ∷ []
    ++ flat_map (alike_said l.column l.row) (take l.other-index l.other-items)) [] l.lits.items
