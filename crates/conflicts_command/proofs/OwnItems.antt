-- What is found of the smallest parts can be told: items are those of their part, and reports can be written.
use Rattle.std.proofs.Common.{◌≡◌, ◌∙◌, ◌<◌, ℕ, List, All, Contains, Some, ap, subst, sym, length, get_or, option_map, slice_get, arith}
use Rattle.std.proofs.lemmas.List.Elements.{All-contains_itself, All-get_or}
use Rattle.std.proofs.lemmas.Option.{get_or_from_slice_get, slice_get-get_or, slice_get-map, slice_get_within}
use Rattle.part_conflicts.specs.Conflicts.{ExplainsInconsistency}
use Rattle.entity_ties.specs.Labels.{Labelling}
use Rattle.minimal_items.specs.Explanations.{AreInOrder, needed_items}
use Rattle.minimal_items.specs.declared.needed.Needed.{Needed}
use Rattle.part_conflicts.specs.Conflicts.{AreConflicts, AreConflictsUpTo}
use Rattle.part_conflicts.specs.declared.found.Conflict.{Conflict}
use Rattle.part_conflicts.specs.declared.found.Found.{Found}
use Rattle.part_conflicts.specs.declared.found.Found.TheVariants as found
use Rattle.spec_items.specs.Items.{items_of}
use Rattle.spec_items.specs.declared.item.Item.{Item}
use Rattle.spec_model.specs.Spec.{Spec}
use Rattle.conflicts_command.specs.Listed.{AreListedIn, IsListed, IsWritableFound}

contains_at : {A : Type 0} (xs : List A) (i : ℕ) (x : A) → slice_get xs i ≡ Some x → Contains xs x
contains_at xs i x at = (i, slice_get_within xs i x at, get_or_from_slice_get xs i x x at)

-- what holds of all items of a list holds of the one that is read
pub item_at : {A : Type 0} (P : A → Type 0) (xs : List A) (i : ℕ) (x : A) → i < length xs
    → x ≡ get_or xs i x → All P xs → P x
item_at P xs i x inside read all = subst P (sym read) (All-get_or P xs i x inside all)

pub all_own : (all items : List Item) → items ≡ all → All (Contains all) items
all_own all items same = subst (λ (xs : List Item). All (Contains all) xs) (sym same) (All-contains_itself all)

-- items that stand in the order of all are among them
own_item : (all items : List Item) → AreInOrder all items → (k : ℕ) (i : Item) → slice_get items k ≡ Some i
    → Contains all i
own_item all items are k i at =
    let inside = slice_get_within items k i at in
    let below : k < length are.places = omega (arith, are.per_item, inside) in
    let place = get_or are.places k 0 in
    contains_at all place i (are.each k place i (slice_get-get_or are.places k 0 below) at)

own_items : (all items : List Item) → AreInOrder all items → All (Contains all) items
own_items all items are k d inside =
    own_item all items are k (get_or items k d) (slice_get-get_or items k d inside)

listed_in : (part : Spec) (needed : List Needed) → ExplainsInconsistency part needed → AreListedIn part needed
listed_in part needed is k d inside =
    own_item (items_of part) (needed_items needed) is.explains.in_order k (get_or needed k d).item
    (slice_get-map (λ (n : Needed). n.item) needed k
    ∙ ap (option_map (λ (n : Needed). n.item)) (slice_get-get_or needed k d inside))

all_listed : (s : Spec) (t : Labelling) (bound : ℕ) (list : List Conflict) → AreConflictsUpTo s t bound list
    → All IsListed list
all_listed s t bound list are k d inside =
    let below : k < length are.numbers = omega (arith, are.per_conflict, inside) in
    let is = are.each k (get_or are.numbers k 0) (get_or list k d) (slice_get-get_or are.numbers k 0 below)
    (slice_get-get_or list k d inside) in
    listed_in (get_or list k d).part (get_or list k d).needed is.explained

pub is_writable : (s : Spec) (budget : ℕ) (f : Found) → AreConflicts s budget f → IsWritableFound f
is_writable s budget (found.All list) is = all_listed s is.0 is.0.count list is.2
is_writable s budget (found.Undecided part report) is = is.2.spent.writable
is_writable s budget (found.Open part spent) is = (
  own_items (items_of part) spent.items is.2.spent_on.in_order,
  is.2.spent_on.spent.writable,
)
