use Rattle.std.proofs.Common.{◌≡◌, ◌+◌, ◌-◌, [], ◌∷◌, ◌++◌, take}
use Rattle.std.specs.List.{flat_map}
use Rattle.entity_ground.specs.Choosing.{chosen_from}
use Rattle.entity_ground.specs.Tests.{passes_from}
use Rattle.entity_ground.proofs.search.Search.+add_from.Given as goal

abbrev pub decreases-add_from : goal.decreases-add_from
decreases-add_from l = l.self.now.rule.vars - l.depth

abbrev pub invariant-loop-row : goal.invariant-loop-row
invariant-loop-row l = l.grounds ≡ l.initial.grounds
    ++ flat_map (λ row. chosen_from (passes_from (l.depth + 1) l.self.rule l.self.table) l.self.members
    (l.self.rule.vars - l.depth - 1) (take l.depth l.front ++ row ∷ [])) (take l.row-index l.row-items)
