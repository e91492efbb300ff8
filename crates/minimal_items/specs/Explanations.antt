-- Explanations: items that suffice for a fact, each of which is needed.
use Rattle.std.specs.Prelude.{◌≡◌, ◌<◌, ℕ, List, map, length, All, Some, slice_get}
use Rattle.report_verify.specs.Right.{EachConsistent}
use Rattle.spec_items.specs.Items.{items_of}
use Rattle.spec_items.specs.Kept.{kept}
use Rattle.spec_items.specs.declared.item.Item.{Item}
use Rattle.spec_model.specs.Completion.{Rankings}
use Rattle.spec_model.specs.Consistent.{IsConsistent}
use Rattle.spec_model.specs.Spec.{Spec}
use Rattle.minimal_items.specs.Among.{among, among_but}
use Rattle.minimal_items.specs.declared.needed.Needed.{Needed}

-- items stand in the order in which those of a specification stand
pub record AreInOrder (all items : List Item) : Type 0 where
  pub places : List ℕ
  pub per_item : length places ≡ length items
  pub ascend : (i j x y : ℕ) → i < j → slice_get places i ≡ Some x → slice_get places j ≡ Some y → x < y
  pub each : (k place : ℕ) (i : Item) → slice_get places k ≡ Some place → slice_get items k ≡ Some i
      → slice_get all place ≡ Some i

-- the items of an explanation
abbrev pub needed_items : List Needed → List Item
needed_items needed = map (λ n. n.item) needed

-- without this item a fact fails in a consistent completion
pub record IsNeeded (s : Spec) (holds : Rankings → Type 0) (items : List Item) (n : Needed) : Type 0 where
  pub consistent : IsConsistent (kept (among_but n.item items) s) n.without
  pub fails : holds n.without → ⊥

-- an explanation of a fact: in each consistent completion of the specification with these items alone it holds, and with one less
-- it does not in each
pub record IsExplanation (s : Spec) (holds : Rankings → Type 0) (needed : List Needed) : Type 0 where
  pub in_order : AreInOrder (items_of s) (needed_items needed)
  pub sufficient : EachConsistent (kept (among (needed_items needed)) s) holds
  pub each_needed : All (IsNeeded s holds (needed_items needed)) needed
