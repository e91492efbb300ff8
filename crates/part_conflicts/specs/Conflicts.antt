-- The smallest parts of a specification that are inconsistent, each with what explains that it is.
use Rattle.std.specs.Prelude.{◌≡◌, ◌⊎◌, ◌<◌, ℕ, List, [], ◌∷◌, All, Contains, Some, length, slice_get}
pub use Rattle.core_explain.specs.Explained.{ExplainsInconsistency}
use Rattle.entity_ties.specs.Labels.{AreTies, Labelling, scope_of}
use Rattle.core_explain.specs.Explained.{IsSpent}
use Rattle.minimal_items.specs.Reduced.{IsSpentOn}
use Rattle.minimal_items.specs.declared.reducing.Spent.{Spent}
use Rattle.part_laws.specs.Parts.{IsPartOf, Places}
use Rattle.report_model.specs.declared.report.Report.{Report}
use Rattle.spec_model.specs.Consistent.{IsSatisfiable}
use Rattle.spec_model.specs.Spec.{Spec}
use Rattle.spec_model.specs.declared.question.Question.TheVariants.{Consistent}
use Rattle.part_conflicts.specs.declared.found.Conflict.{Conflict}
use Rattle.part_conflicts.specs.declared.found.Found.{Found}
use Rattle.part_conflicts.specs.declared.found.Found.TheVariants as found

-- ---- one part

-- a smallest part, by its number, as a specification of its own
pub record IsSmallest (s : Spec) (t : Labelling) (number : ℕ) (part : Spec) : Type 0 where
  pub within : number < t.count
  pub places : Places
  pub is_part : IsPartOf s (scope_of t (number ∷ [])) places part

-- the smallest part of this number has a consistent completion
pub record IsConsistentPart (s : Spec) (t : Labelling) (number : ℕ) : Type 0 where
  pub part : Spec
  pub is_smallest : IsSmallest s t number part
  pub satisfiable : IsSatisfiable part

-- the smallest part of this number has none, and this explains it
pub record IsConflict (s : Spec) (t : Labelling) (number : ℕ) (c : Conflict) : Type 0 where
  pub is_smallest : IsSmallest s t number c.part
  pub explained : ExplainsInconsistency c.part c.needed

-- for the smallest part of some number the budget is spent, as the report says
pub record IsUndecidedPart (s : Spec) (t : Labelling) (budget : ℕ) (part : Spec) (report : Report) : Type 0 where
  pub number : ℕ
  pub is_smallest : IsSmallest s t number part
  pub spent : IsSpent part Consistent budget report

-- the smallest part of some number is such that for some of its items the budget is spent
pub record IsOpenPart (s : Spec) (t : Labelling) (budget : ℕ) (part : Spec) (spent : Spent) : Type 0 where
  pub number : ℕ
  pub is_smallest : IsSmallest s t number part
  pub spent_on : IsSpentOn part Consistent budget spent

-- ---- all parts

-- of the smallest parts whose numbers are below a bound, these are the inconsistent ones, in order, and the others are
-- consistent
pub record AreConflictsUpTo (s : Spec) (t : Labelling) (bound : ℕ) (found : List Conflict) : Type 0 where
  pub numbers : List ℕ
  pub per_conflict : length numbers ≡ length found
  pub ascend : (i j x y : ℕ) → i < j → slice_get numbers i ≡ Some x → slice_get numbers j ≡ Some y → x < y
  pub below : All (λ number. number < bound) numbers
  pub each : (k number : ℕ) (c : Conflict) → slice_get numbers k ≡ Some number → slice_get found k ≡ Some c
      → IsConflict s t number c
  pub rest : (number : ℕ) → number < bound → Contains numbers number ⊎ IsConsistentPart s t number

-- what is found of the smallest parts, where they are these: the inconsistent ones; or one for which the budget is
-- spent
abbrev pub AreConflictsOf : Spec → Labelling → ℕ → Found → Type 0
AreConflictsOf s t budget (found.All list) = AreConflictsUpTo s t t.count list
AreConflictsOf s t budget (found.Undecided part report) = IsUndecidedPart s t budget part report
AreConflictsOf s t budget (found.Open part spent) = IsOpenPart s t budget part spent

-- the same, whichever the smallest parts are
abbrev pub AreConflicts : Spec → ℕ → Found → Type 0
AreConflicts s budget f = (t : Labelling) × AreTies s t × AreConflictsOf s t budget f
