-- A completion with no row that is filled from another one is the other one.
use Rattle.std.proofs.Common.{◌≡◌, ◌∙◌, List, ap}
use Rattle.completion_fill.specs.Filled.{list_or, filled}
use Rattle.completion_fill.proofs.Shapes.{filled_shape, filled_ranking, same_rankings}
use Rattle.spec_model.specs.Completion.{Rankings, HasShape, IsBlank, ranking_of}
use Rattle.spec_model.specs.declared.relation.Relation.{Relation}

pub is_copy : (relations : List Relation) (c blank copy : Rankings) → HasShape relations c → HasShape relations blank
    → IsBlank blank → copy ≡ filled c blank → copy ≡ c
is_copy relations c blank copy shape blank_shape none is =
    is ∙ same_rankings relations (filled c blank) c (filled_shape relations c blank shape blank_shape) shape
    (λ rel attr ent. filled_ranking relations c blank shape blank_shape rel attr ent
    ∙ ap (list_or (ranking_of c rel attr ent)) (none rel attr ent))
