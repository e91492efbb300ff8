use Rattle.std.proofs.Common.{take}
use Rattle.std.specs.List.{flat_map}
use Rattle.order_clauses.specs.Added.{Adds}
use Rattle.order_clauses.specs.Listing.{copy_label}
use Rattle.order_clauses.proofs.copied.copied_at.Given as goal

abbrev pub invariant-loop-pair : goal.invariant-loop-pair
invariant-loop-pair l = Adds l.sayings (flat_map (copy_label l.copy l.place) (take l.pair-index l.pairs)) l.initial.steps l.steps
