use Rattle.std.proofs.Common.{take}
use Rattle.std.specs.List.{flat_map}
use Rattle.order_clauses.specs.Added.{Adds}
use Rattle.order_clauses.specs.Listing.{ground_label}
use Rattle.order_clauses.proofs.ruled.ruled_by.Given as goal

abbrev pub invariant-loop-place : goal.invariant-loop-place
invariant-loop-place l = Adds l.sayings (flat_map (ground_label l.rule) (take l.place l.grounds)) l.initial.steps l.steps
