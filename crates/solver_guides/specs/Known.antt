-- Known: what guides of each kind know.
use Rattle.std.specs.Prelude.{◌+◌, ◌-◌, ◌/◌, ◌^◌, ℕ, Bool, true, List, [], ◌∷◌, if◌then◌else◌, map, min, nat_lt, slice_index_or, slice_set}
use Rattle.search_trail.specs.Trails.{is_in_scope}
use Rattle.solver_guides.specs.declared.activity.Activity.{Activity}
use Rattle.solver_guides.specs.declared.first_free.FirstFree.{FirstFree}
use Rattle.solver_guides.specs.declared.keep_phase.KeepPhase.{KeepPhase}
use Rattle.solver_guides.specs.declared.seeded.Seeded.{Seeded}

-- the first guess at a model
abbrev pub start_of : FirstFree → List Bool
start_of g = g.start.items

-- the value that each variable had when it was last freed
abbrev pub phases_of : KeepPhase → List Bool
phases_of g = g.phases.items

-- the state of the generator
abbrev pub state_of : Seeded → ℕ
state_of g = g.state

-- the count of each variable
abbrev pub counts_of : Activity → List ℕ
counts_of g = g.tree.counts

-- which variables are present: each of the scope that is free is, and others may be
abbrev pub present_of : Activity → List Bool
present_of g = g.tree.present

-- the value that each variable had when it was last freed
abbrev pub truths_of : Activity → List Bool
truths_of g = g.phases.items

-- some variables are made present, or taken off
abbrev pub marked : List Bool → List ℕ → Bool → List Bool
marked present [] now = present
marked present (var ∷ vars) now = marked (slice_set present var now) vars now

-- a variable is made present where it is of the scope
abbrev pub put_back : List Bool → List ℕ → ℕ → List Bool
put_back present scope var = if is_in_scope scope var then slice_set present var true else present

-- how much a conflict adds to the count of a variable
abbrev pub bump_of : Activity → ℕ
bump_of g = g.bump

-- the bump after a conflict: one part in 2048 more
abbrev pub grown : ℕ → ℕ
grown bump = min (bump + bump / 2048) (2 ^ 64 - 1)

-- the counts with that of one variable raised by the bump
abbrev pub raised : List ℕ → ℕ → ℕ → List ℕ
raised counts var bump = slice_set counts var (min (slice_index_or counts var 0 + bump) (2 ^ 64 - 1))

-- the counts after a variable was seen in a conflict: where the bump has grown too far, all are scaled down
abbrev pub counts_after : List ℕ → ℕ → ℕ → List ℕ
counts_after counts var bump =
    if nat_lt (2 ^ 50) (grown bump) then map (λ count. count / 2 ^ 34) (raised counts var bump) else raised counts var bump

-- and the bump
abbrev pub bump_after : ℕ → ℕ
bump_after bump = if nat_lt (2 ^ 50) (grown bump) then grown bump / 2 ^ 34 else grown bump
