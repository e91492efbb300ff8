-- What is known of the smallest parts while one after the other is decided.
use Rattle.std.specs.Prelude.{◌≡◌, ◌⊎◌, ◌++◌, ◌∷◌, ℕ, List, [], Option, None, Some}
use Rattle.core_explain.specs.Explained.{ExplainsInconsistency}
use Rattle.entity_ties.specs.Labels.{Labelling}
use Rattle.core_explain.specs.Explained.{IsSpent}
use Rattle.minimal_items.specs.Reduced.{IsSpentOn}
use Rattle.minimal_items.specs.declared.needed.Needed.{Needed}
use Rattle.spec_model.specs.Consistent.{IsSatisfiable}
use Rattle.spec_model.specs.Spec.{Spec}
use Rattle.spec_model.specs.declared.question.Question.TheVariants.{Consistent}
use Rattle.part_conflicts.specs.Conflicts.{AreConflictsUpTo, IsOpenPart, IsUndecidedPart}
use Rattle.part_conflicts.specs.declared.found.Conflict.{Conflict}
use Rattle.part_conflicts.specs.declared.found.Found.{Found}
use Rattle.part_conflicts.specs.declared.found.Found.TheVariants as found

-- a part with what explains that it is inconsistent
abbrev pub conflict : Spec → List Needed → Conflict
conflict part needed = record { part = part; needed = needed }

-- a part is listed last, and is inconsistent
pub record IsListed (part : Spec) (old new : List Conflict) : Type 0 where
  pub needed : List Needed
  pub explained : ExplainsInconsistency part needed
  pub listed : new ≡ old ++ conflict part needed ∷ []

-- a part is not listed, and is consistent
pub record IsPassed (part : Spec) (old new : List Conflict) : Type 0 where
  pub satisfiable : IsSatisfiable part
  pub kept : new ≡ old

-- for a part the budget is spent
abbrev pub IsPartSpent : Spec → ℕ → Found → Type 0
IsPartSpent part budget (found.All list) = ⊥
IsPartSpent part budget (found.Undecided left report) = (left ≡ part) × IsSpent part Consistent budget report
IsPartSpent part budget (found.Open left spent) = (left ≡ part) × IsSpentOn part Consistent budget spent

-- a part is listed or passed, or the budget is spent
abbrev pub IsPartDecided : Spec → ℕ → List Conflict → List Conflict → Option Found → Type 0
IsPartDecided part budget old new None = IsListed part old new ⊎ IsPassed part old new
IsPartDecided part budget old new (Some f) = IsPartSpent part budget f

-- for a smallest part the budget is spent
abbrev pub IsStopped : Spec → Labelling → ℕ → Found → Type 0
IsStopped s t budget (found.All list) = ⊥
IsStopped s t budget (found.Undecided part report) = IsUndecidedPart s t budget part report
IsStopped s t budget (found.Open part spent) = IsOpenPart s t budget part spent

-- the smallest parts below a bound are decided, or for one the budget is spent
abbrev pub AreDecidedTo : Spec → Labelling → ℕ → ℕ → List Conflict → Option Found → Type 0
AreDecidedTo s t budget bound list None = AreConflictsUpTo s t bound list
AreDecidedTo s t budget bound list (Some f) = IsStopped s t budget f
