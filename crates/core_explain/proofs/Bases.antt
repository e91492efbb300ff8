-- The first of the completions that a report lists.
use Rattle.std.proofs.Common.{List, [], ◌∷◌, slice_get, arith}
use Rattle.std.specs.List.{All}
use Rattle.near_items.specs.Sought.{IsBase}
use Rattle.spec_model.specs.Completion.{Rankings}
use Rattle.spec_model.specs.Consistent.{IsConsistent}
use Rattle.spec_model.specs.Spec.{Spec}

-- it is consistent, where each is
pub first_base : (s : Spec) (cs : List Rankings) → All (IsConsistent s) cs → IsBase s (slice_get cs 0)
first_base s [] all = tt
first_base s (c ∷ cs) all = all 0 c (omega arith)
