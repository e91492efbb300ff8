use Rattle.std.proofs.Common.{◌≡◌, ◌-◌, [], ◌∷◌, ◌++◌, take}
use Rattle.entity_ground.specs.Choosing.{chosen_from}
use Rattle.entity_ground.specs.Grounds.{has_instance}
use Rattle.std.specs.List.{flat_map}
use Rattle.entity_ground.proofs.plain.+add_tried.Given as goal

abbrev pub decreases-add_tried : goal.decreases-add_tried
decreases-add_tried l = l.left

abbrev pub invariant-loop-row : goal.invariant-loop-row
invariant-loop-row l = record {
  front : l.front.items ≡ l.initial.front.items;
  so_far : l.grounds ≡ l.initial.grounds
      ++ flat_map (λ row. chosen_from (has_instance l.rule l.table) l.members (l.left - 1)
      (l.initial.front.items ++ row ∷ [])) (take l.row-index l.members);
}
