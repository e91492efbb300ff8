-- Explanations over a part, and what they become over the whole.
use Rattle.std.specs.Prelude.{◌≡◌, ◌&&◌, ℕ, Bool, true, false, List, Some, length, slice_get}
use Rattle.copy_functions.specs.Copies.{CopyFunction}
use Rattle.minimal_items.specs.Among.{among}
use Rattle.minimal_items.specs.declared.needed.Needed.{Needed}
use Rattle.part_items.specs.Items.{whole_item}
use Rattle.part_join.specs.Joined.{IsJoined}
use Rattle.part_laws.specs.Parts.{Places}
use Rattle.spec_items.specs.Kept.{Keeps}
use Rattle.spec_items.specs.declared.item.Item.{Item}
use Rattle.spec_items.specs.declared.item.Item.TheVariants as item
use Rattle.spec_model.specs.Completion.{Rankings}
use Rattle.spec_model.specs.declared.question.Question.{Question}
use Rattle.spec_model.specs.declared.question.Question.TheVariants as asked
use Rattle.spec_model.specs.declared.relation.Relation.{Relation}
use Rattle.unit_questions.specs.Facts.{FactHolds}

-- whether an item is a rule
abbrev pub is_rule : Item → Bool
is_rule (item.Rule k) = true
is_rule i = false

-- the rules among some items
abbrev pub rules_among : List Item → Keeps
rules_among items = λ i. is_rule i && among items i

-- an item that is needed over a part, and what it is over the whole: its completion is joined with another one
pub record IsWidened (relations : List Relation) (copies : List CopyFunction) (n : Places) (base : Rankings)
    (narrow wide : Needed) : Type 0 where
  pub item : wide.item ≡ whole_item n copies narrow.item
  pub joined : IsJoined relations n base narrow.without wide.without

-- so many, each of which is one
pub record AreWidened (relations : List Relation) (copies : List CopyFunction) (n : Places) (base : Rankings)
    (narrow wide : List Needed) : Type 0 where
  pub as_many : length wide ≡ length narrow
  pub each : (k : ℕ) (x y : Needed) → slice_get narrow k ≡ Some x → slice_get wide k ≡ Some y
      → IsWidened relations copies n base x y

-- of a query it was looked whether it has its answer in a completion: that pairs fail, and that a contradiction does, follows
abbrev pub IsSeenToFail : List Relation → Question → Needed → Type 0
IsSeenToFail relations (asked.Answers query) n = FactHolds relations (asked.Answers query) n.without → ⊥
IsSeenToFail relations q n = Unit {0}
