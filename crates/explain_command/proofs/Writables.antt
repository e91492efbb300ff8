-- What explains a unit can be written.
use Rattle.std.proofs.Common.{◌≡◌, ℕ, List, Some, All, Contains, slice_get, get_or, subst, arith}
use Rattle.std.proofs.lemmas.Option.{get_or_from_slice_get, slice_get-get_or, slice_get_within}
use Rattle.std.proofs.lemmas.List.{get_or-map, length-map}
use Rattle.core_explain.specs.Explained.{IsExplained}
use Rattle.core_explain.specs.declared.explaining.Explained.{Explained}
use Rattle.core_explain.specs.declared.explaining.Explained.TheVariants as explained
use Rattle.minimal_items.specs.Among.{among_but}
use Rattle.minimal_items.specs.Explanations.{AreInOrder, IsExplanation, IsNeeded, needed_items}
use Rattle.minimal_items.specs.Reduced.{IsSpentOn}
use Rattle.minimal_items.specs.declared.needed.Needed.{Needed}
use Rattle.minimal_items.specs.declared.reducing.Spent.{Spent}
use Rattle.search_logs.specs.Laws.{CompletionsAreWritable}
use Rattle.search_logs.specs.SearchLogs.{IsWithin}
use Rattle.spec_items.specs.Items.{items_of}
use Rattle.spec_items.specs.declared.item.Item.{Item}
use Rattle.spec_model.specs.Completion.{Rankings}
use Rattle.spec_model.specs.Spec.{Spec}
use Rattle.spec_model.specs.declared.question.Question.{Question}
use Rattle.explain_command.specs.Writable.{IsWritableExplained, IsWritableNeeded, IsWritableSpent}
use Rattle.core_explain.proofs.Completions.{completion_whole}

-- ---- items

contains_at : {A : Type 0} (xs : List A) (k : ℕ) (x : A) → slice_get xs k ≡ Some x → Contains xs x
contains_at xs k x at = (k, slice_get_within xs k x at, get_or_from_slice_get xs k x x at)

-- items in order are among all
all_contained : (all items : List Item) → AreInOrder all items → All (Contains all) items
all_contained all items order k d below =
    let count = order.per_item in
    let place = get_or order.places k 0 in
    contains_at all place (get_or items k d)
    (order.each k place (get_or items k d) (slice_get-get_or order.places k 0 (omega (arith, below, count)))
    (slice_get-get_or items k d below))

-- ---- needed items

module _ (law : CompletionsAreWritable) (s : Spec) (within : IsWithin s) where
  needed_one : (holds : Rankings → Type 0) (items : List Item) (n : Needed) → Contains (items_of s) n.item
      → IsNeeded s holds items n → IsWritableNeeded s n
  needed_one holds items n is_item is = record {
    item = is_item;
    without = law s n.without within (completion_whole (among_but n.item items) s.relations n.without is.consistent.completion);
  }

  needed_all : (holds : Rankings → Type 0) (needed : List Needed) → IsExplanation s holds needed → All (IsWritableNeeded s) needed
  needed_all holds needed is k d below =
      let items = needed_items needed in
      let count = length-map needed (λ (n : Needed). n.item) in
      let there : Contains (items_of s) (get_or items k d.item) =
      all_contained (items_of s) items is.in_order k d.item (omega (arith, below, count)) in
      needed_one holds items (get_or needed k d)
      (subst (Contains (items_of s)) (get_or-map (λ (n : Needed). n.item) needed k d d.item below) there)
      (is.each_needed k d below)

  -- ---- whatever explains a unit

  spent_items : (tried : Question) (budget : ℕ) (spent : Spent) → IsSpentOn s tried budget spent → IsWritableSpent s spent
  spent_items tried budget spent is = record {
    items = all_contained (items_of s) spent.items is.in_order;
    report = is.spent.writable;
  }

  pub explained_writable : (q : Question) (unit budget : ℕ) (x : Explained) → IsExplained s q unit budget x
      → IsWritableExplained s x
  explained_writable q unit budget (explained.Inconsistent needed) is = needed_all _ needed is.explains
  explained_writable q unit budget (explained.Unit needed) is = needed_all _ needed is.explains
  explained_writable q unit budget (explained.NoUnit report) is = is.writable
  explained_writable q unit budget (explained.TooMany c) is = tt
  explained_writable q unit budget (explained.Undecided report) is = is.writable
  explained_writable q unit budget (explained.Open spent) is = spent_items is.tried budget spent is.is_spent
