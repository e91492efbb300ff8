-- A completion with no row that is filled from another one is the other one.
use Rattle.std.proofs.Common.{◌≡◌, ◌∙◌, List, ap}
use Rattle.completion_fill.specs.Filled.{list_or, filled}
use Rattle.completion_fill.proofs.Shapes.{filled_shape, filled_ranking, same_rankings}
use Rattle.spec_model.specs.Completion.{Rankings, HasShape, IsBlank, ranking_of}
use Rattle.spec_model.specs.declared.relation.Relation.{Relation}

pub is_copy : (relations : List Relation) (other blank new : Rankings) → HasShape relations other
    → HasShape relations blank → IsBlank blank
    → new ≡ filled other blank → new ≡ other
is_copy relations other blank new of_other of_blank none is =
    is ∙ same_rankings relations (filled other blank) other (filled_shape relations other blank of_other of_blank) of_other
    (λ rel attr ent. filled_ranking relations other blank of_other of_blank rel attr ent
    ∙ ap (list_or (ranking_of other rel attr ent)) (none rel attr ent))
