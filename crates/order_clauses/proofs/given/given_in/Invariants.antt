use Rattle.std.proofs.Common.{map}
use Rattle.std.specs.List.{flat_map}
use Rattle.std.specs.Map.Iter.{deref}
use Rattle.order_clauses.specs.Added.{Adds}
use Rattle.order_clauses.specs.Listing.{given_label}
use Rattle.order_clauses.proofs.given.given_in.Given as goal

abbrev pub invariant-loop-pair : goal.invariant-loop-pair
invariant-loop-pair l = Adds l.sayings (flat_map (given_label l.rel) (map deref l.yielded)) l.initial.steps l.steps
