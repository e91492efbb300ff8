-- What is asked of a part, and an explanation over it, while one after the other is taken to or from the whole.
use Rattle.std.specs.Prelude.{◌≡◌, ◌≤◌, ◌<◌, ◌++◌, ◌∷◌, ℕ, List, [], All, length, Some, slice_get}
use Rattle.minimal_items.specs.Explanations.{AreInOrder, needed_items}
use Rattle.minimal_items.specs.declared.needed.Needed.{Needed}
use Rattle.part_facts.specs.Questions.{IsAskedPart}
use Rattle.part_laws.specs.Parts.{Places}
use Rattle.part_widens.specs.Widened.{AreWidened, IsSeenToFail, IsWidened}
use Rattle.spec_items.specs.Items.{items_of}
use Rattle.spec_model.specs.Completion.{IsCompletion, Rankings}
use Rattle.spec_model.specs.Spec.{Spec}
use Rattle.spec_model.specs.declared.question.Asked.{Asked}
use Rattle.spec_model.specs.declared.question.Question.{Question}
use Rattle.spec_model.specs.declared.relation.Relation.{Relation}

-- ---- what is asked

-- so many of the pairs that are asked of the whole are asked of a part
pub record AreAskedTo (n : Places) (new old : List Asked) (count : ℕ) : Type 0 where
  pub as_many : length new ≡ count
  pub each : (k : ℕ) (p old_p : Asked) → slice_get new k ≡ Some p → slice_get old k ≡ Some old_p → IsAskedPart n p old_p

-- ---- what explains

-- without each needed item there is a completion
abbrev pub HaveCompletions : List Relation → List Needed → Type 0
HaveCompletions relations needed = All (λ one. IsCompletion relations one.without) needed

-- a needed item of a part is put in as one of the whole, which stands there before a bound, and not before another
pub record IsPutWide (s : Spec) (n : Places) (q : Question) (base : Rankings) (start : ℕ) (narrow : Needed)
    (old new : List Needed) (bound : ℕ) : Type 0 where
  pub wide : Needed
  pub put : new ≡ old ++ wide ∷ []
  pub is_widened : IsWidened s.relations s.copies n base narrow wide
  pub place : ℕ
  pub after : start ≤ place
  pub below : place < bound
  pub is_there : slice_get (items_of s) place ≡ Some wide.item
  pub seen : IsSeenToFail s.relations q wide

-- so many needed items of a part are put in, at places below a bound
pub record AreWidenedTo (s : Spec) (n : Places) (q : Question) (base : Rankings) (narrow : List Needed) (count bound : ℕ)
    (wide : List Needed) : Type 0 where
  pub as_many : length wide ≡ count
  pub each : (k : ℕ) (x y : Needed) → slice_get narrow k ≡ Some x → slice_get wide k ≡ Some y
      → IsWidened s.relations s.copies n base x y
  pub places : List ℕ
  pub per_item : length places ≡ count
  pub below : All (λ place. place < bound) places
  pub ascend : (i j x y : ℕ) → i < j → slice_get places i ≡ Some x → slice_get places j ≡ Some y → x < y
  pub there : (k place : ℕ) (y : Needed) → slice_get places k ≡ Some place → slice_get wide k ≡ Some y
      → slice_get (items_of s) place ≡ Some y.item
  pub seen : All (IsSeenToFail s.relations q) wide

-- all of them are put in, in the order of the whole's items
pub record AreWide (s : Spec) (n : Places) (q : Question) (base : Rankings) (narrow wide : List Needed) : Type 0 where
  pub in_order : AreInOrder (items_of s) (needed_items wide)
  pub widened : AreWidened s.relations s.copies n base narrow wide
  pub seen : All (IsSeenToFail s.relations q) wide
