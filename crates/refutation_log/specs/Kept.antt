-- How the steps of a log are kept: heads, and flat lists of each kind, one per step.
use Rattle.std.specs.Prelude.{◌≡◌, ◌<◌, ◌≤◌, ℕ, suc, List, [], ◌∷◌, length, slice_index_or}
use Rattle.currency_base.specs.declared.ids.RowId.{RowId}
use Rattle.currency_base.specs.declared.ids.EntId.{EntId}
use Rattle.currency_base.specs.declared.lit.Lit.{Lit}
use Rattle.currency_base.specs.declared.value.Value.{Value as Datum}
use Rattle.refutation_log.specs.declared.step.Label.{Label}
use Rattle.refutation_log.specs.declared.step.Label.TheVariants as label
use Rattle.refutation_log.specs.declared.step.Step.{Step}
use Rattle.refutation_log.specs.declared.step.Step.TheVariants as step
use Rattle.refutation_log.specs.declared.steps.heads.HeadLabel.{HeadLabel}
use Rattle.refutation_log.specs.declared.steps.heads.HeadLabel.TheVariants.{Given, Transitive, Rule, Copy, Above, Top, Last, Value, Match}
use Rattle.refutation_log.specs.declared.steps.heads.Head.{Head}
use Rattle.refutation_log.specs.declared.steps.heads.Head.TheVariants.{Axiom, OnDemand, Learn}
use Rattle.refutation_log.specs.declared.steps.heads.Parts.{Parts}
use Rattle.refutation_log.specs.declared.steps.lists.Lists.{Lists}

-- the label with that head and these lists
abbrev pub label_with : HeadLabel → List RowId → List EntId → List Datum → Label
label_with (Given rel attr earlier later) rows entities values = label.Given rel attr earlier later
label_with (Transitive rel attr first second third) rows entities values = label.Transitive rel attr first second third
label_with (Rule rule) rows entities values = label.Rule rule rows
label_with (Copy copy place first second) rows entities values = label.Copy copy place first second
label_with (Above rel attr row other) rows entities values = label.Above rel attr row other
label_with (Top rel attr row) rows entities values = label.Top rel attr row
label_with (Last rel attr row) rows entities values = label.Last rel attr row
label_with (Value rel attr row) rows entities values = label.Value rel attr row
label_with (Match disjunct) rows entities values = label.Match disjunct entities values

-- the step with that head and these lists
abbrev pub step_with : Head → List RowId → List EntId → List Datum → List Lit → List ℕ → Step
step_with (Axiom head) rows entities values lits hints = step.Axiom (label_with head rows entities values) lits
step_with (OnDemand head) rows entities values lits hints = step.OnDemand (label_with head rows entities values) lits
step_with (Learn counted) rows entities values lits hints = step.Learn lits hints counted

-- the step that was taken apart
abbrev pub step_of_parts : Parts → Step
step_of_parts p = step_with p.head p.rows.now p.entities.now p.values.now p.lits.now p.hints.now

-- the list at a place, and past the end none
abbrev pub list_at : {A : Type 0} → List (List A) → ℕ → List A
list_at lists place = slice_index_or lists place []

-- the step with that head and the lists at a place
abbrev pub step_at : Head → Lists → ℕ → Step
step_at head lists place =
    step_with head (list_at lists.rows place) (list_at lists.entities place) (list_at lists.values place)
    (list_at lists.lits place) (list_at lists.hints place)

-- the steps with these heads and the lists from a place on
abbrev pub steps_from : ℕ → List Head → Lists → List Step
steps_from place [] lists = []
steps_from place (head ∷ heads) lists = step_at head lists place ∷ steps_from (suc place) heads lists

-- there are lists of each kind at so many places; there may be more, which a refused step left
pub record HaveLists (count : ℕ) (lists : Lists) : Type 0 where
  pub rows : count ≤ length lists.rows
  pub entities : count ≤ length lists.entities
  pub values : count ≤ length lists.values
  pub lits : count ≤ length lists.lits
  pub hints : count ≤ length lists.hints

-- the lists before a place are the same
abbrev pub SameBefore : {A : Type 0} → ℕ → List (List A) → List (List A) → Type 0
SameBefore place new old = (k : ℕ) → k < place → list_at new k ≡ list_at old k

-- the lists of each kind before a place are the same
pub record AreKept (place : ℕ) (new old : Lists) : Type 0 where
  pub rows : SameBefore place new.rows old.rows
  pub entities : SameBefore place new.entities old.entities
  pub values : SameBefore place new.values old.values
  pub lits : SameBefore place new.lits old.lits
  pub hints : SameBefore place new.hints old.hints
