-- What forced pairs tell of the consistent completions.
use Rattle.std.specs.Prelude.{ℕ}
use Rattle.currency_base.specs.declared.ids.RowId.{RowId}
use Rattle.spec_model.specs.Completion.{Rankings, lists_of, Before}
use Rattle.spec_model.specs.Consistent.{IsConsistent}
use Rattle.spec_model.specs.Facts.{IsSpecification}
use Rattle.spec_model.specs.Spec.{Spec}
use Rattle.forced_closure.specs.Forced.{IsForced, HasLoop}

-- in every consistent completion of a specification each forced pair holds: its earlier row stands before its later one
abbrev pub ForcedPairsHold : Type 0
ForcedPairsHold = (s : Spec) (c : Rankings) → IsSpecification s → IsConsistent s c
    → (rel attr : ℕ) (earlier later : RowId) → IsForced s rel attr earlier later
    → Before (lists_of c rel attr) earlier later

-- where there is a loop, no completion is consistent
abbrev pub LoopsRuleOut : Type 0
LoopsRuleOut = (s : Spec) (c : Rankings) → IsSpecification s → HasLoop s → IsConsistent s c → ⊥
