use Rattle.std.proofs.Common.{length}
use Rattle.std.specs.Option.{option_map}
use Rattle.watch_links.specs.Links.{rest_from}
use Rattle.clause_arena.specs.Arenas.{watchers_of}
use Rattle.watch_propagate.proofs.WalkRounds.{IsGoing}
use Rattle.watch_propagate.proofs.propagation.go_through.Given as goal

abbrev pub invariant-loop-at : goal.invariant-loop-at
invariant-loop-at l = IsGoing (option_map (λ no. no.0) l.before) (option_map (λ no. no.0) l.at) l.initial.arena l.arena
    l.initial.trail l.trail l.lit

abbrev pub decreases-loop-at : goal.decreases-loop-at
decreases-loop-at l = length (rest_from (option_map (λ no. no.0) l.at) (watchers_of l.arena l.lit))
