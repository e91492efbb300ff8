-- The items that are needed over a part, and over the whole.
use Rattle.std.proofs.Common.{◌≡◌, ◌∙◌, ℕ, zero, suc, true, false, not, List, [], ◌∷◌, Some, Contains, slice_get, sym, ap, subst, ⊎_elim, arith}
use Rattle.std.proofs.lemmas.Bool.{and_from, and_parts, false_from_ne_true, false≢true, not-true, or_cases, or_left, or_right, true≢false}
use Rattle.std.proofs.lemmas.Option.{none-some, same_Some, slice_get_within}
use Rattle.minimal_items.specs.Among.{among, among_but, same_item}
use Rattle.minimal_items.specs.Explanations.{AreInOrder, needed_items}
use Rattle.minimal_items.specs.declared.needed.Needed.{Needed}
use Rattle.minimal_items.proofs.Same.{same_itself, same_of}
use Rattle.part_items.specs.Items.{whole_item}
use Rattle.part_laws.specs.Parts.{Scope, Places, IsPartOf}
use Rattle.part_laws.proofs.Rows.{place_of, there}
use Rattle.spec_items.specs.Items.{items_of}
use Rattle.spec_items.specs.declared.item.Item.{Item}
use Rattle.spec_model.specs.Completion.{Rankings}
use Rattle.spec_model.specs.Spec.{Spec}
use Rattle.part_widens.specs.Widened.{AreWidened}
use Rattle.part_widens.proofs.Lists.{mapped_at, unmapped}
use Rattle.part_widens.proofs.Members.{item_of}
use Rattle.part_widens.proofs.PartItems.{AreThere, rows_there, HasRow, has_row, item_once, item_same}

-- ---- items among others

among_at : (items : List Item) (k : ℕ) (i : Item) → slice_get items k ≡ Some i → among items i ≡ true
among_at [] k i at = absurd (none-some i at)
among_at (j ∷ items) zero i at =
    or_left (same_item i j) (among items i)
    (subst (λ (x : Item). same_item i x ≡ true) (sym (same_Some j i at)) (same_itself i))
among_at (j ∷ items) (suc k) i at = or_right (same_item i j) (among items i) (among_at items k i at)

among_place : (items : List Item) (i : Item) → among items i ≡ true → (k : ℕ) × (slice_get items k ≡ Some i)
among_place [] i e = absurd (false≢true e)
among_place (j ∷ items) i e =
    ⊎_elim
    (λ (here : same_item i j ≡ true). (0, ap Some (sym (same_of i j here))))
    (λ (later : among items i ≡ true). let more = among_place items i later in (suc more.0, more.1))
    (or_cases (same_item i j) (among items i) e)

-- ---- a part, and what is needed over it

-- a specification, a part of it, a completion, and the items that are needed over the part and over the whole
pub record Widening : Type 0 where
  pub s : Spec
  pub scope : Scope
  pub n : Places
  pub part : Spec
  pub base : Rankings
  pub narrow : List Needed
  pub wide : List Needed

pub record IsWidening (w : Widening) : Type 0 where
  pub of : IsPartOf w.s w.scope w.n w.part
  pub in_order : AreInOrder (items_of w.part) (needed_items w.narrow)
  pub are : AreWidened w.s.relations w.s.copies w.n w.base w.narrow w.wide

-- the item of the whole that an item is
abbrev pub whole_of : Widening → Item → Item
whole_of w i = whole_item w.n w.s.copies i

item_at : (needed : List Needed) (k : ℕ) (one : Needed) → slice_get needed k ≡ Some one
    → slice_get (needed_items needed) k ≡ Some one.item
item_at needed k one at = mapped_at (λ (n : Needed). n.item) needed k one at

at_item : (needed : List Needed) (k : ℕ) (i : Item) → slice_get (needed_items needed) k ≡ Some i
    → (one : Needed) × (slice_get needed k ≡ Some one) × (one.item ≡ i)
at_item needed k i at = unmapped (λ (n : Needed). n.item) needed k i at

-- what is needed over the part is needed over the whole, and the other way round
pub narrow_among : (w : Widening) (i : Item) → IsWidening w → among (needed_items w.narrow) i ≡ true
    → among (needed_items w.wide) (whole_of w i) ≡ true
narrow_among w i is e =
    let place = among_place (needed_items w.narrow) i e in
    let one = at_item w.narrow place.0 i place.1 in
    let below = slice_get_within w.narrow place.0 one.0 one.1 in
    let other = there w.wide place.0 (let many = is.are.as_many in omega (arith, below, many)) in
    let same = (is.are.each place.0 one.0 other.0 one.1 other.1).item in
    among_at (needed_items w.wide) place.0 (whole_of w i)
    (item_at w.wide place.0 other.0 other.1 ∙ ap Some (same ∙ ap (whole_of w) one.2))

pub wide_among : (w : Widening) (j : Item) → IsWidening w → among (needed_items w.wide) j ≡ true
    → (k : ℕ) × (i : Item) × (slice_get (needed_items w.narrow) k ≡ Some i) × (whole_of w i ≡ j)
wide_among w j is e =
    let place = among_place (needed_items w.wide) j e in
    let other = at_item w.wide place.0 j place.1 in
    let below = slice_get_within w.wide place.0 other.0 other.1 in
    let one = there w.narrow place.0 (let many = is.are.as_many in omega (arith, below, many)) in
    let same = (is.are.each place.0 one.0 other.0 one.1 other.1).item in
    (place.0, one.0.item, item_at w.narrow place.0 one.0 one.1, sym same ∙ other.2)

-- an item that is needed over the part is one of the part
needed_there : (w : Widening) (k : ℕ) (i : Item) → IsWidening w → slice_get (needed_items w.narrow) k ≡ Some i
    → AreThere w.n w.s.copies i
needed_there w k i is at =
    let below = slice_get_within (needed_items w.narrow) k i at in
    let place = there is.in_order.places k (let many = is.in_order.per_item in omega (arith, below, many)) in
    rows_there w.s w.scope w.n w.part i is.of (item_of w.part place.0 i (is.in_order.each k place.0 i place.1 at))

-- what is needed over the whole names rows of the part
pub needed_row : (w : Widening) (j : Item) → IsWidening w → among (needed_items w.wide) j ≡ true → HasRow w.n w.s.copies j
needed_row w j is e =
    let of = wide_among w j is e in
    subst (HasRow w.n w.s.copies) of.3 (has_row w.n w.s.copies of.1 (needed_there w of.0 of.1 is of.2))

part_among : (w : Widening) (x : Item) → IsWidening w → Contains (items_of w.part) x
    → among (needed_items w.wide) (whole_of w x) ≡ true
    → among (needed_items w.narrow) x ≡ true
part_among w x is at e =
    let of = wide_among w (whole_of w x) is e in
    let place = place_of (items_of w.part) x at in
    let are = rows_there w.s w.scope w.n w.part x is.of (item_of w.part place.0 x place.1) in
    let whole : same_item (whole_of w x) (whole_of w of.1) ≡ true =
    subst (λ (i : Item). same_item (whole_of w x) i ≡ true) (sym of.3) (same_itself (whole_of w x)) in
    let same = same_of x of.1
    (item_once w.n w.s.copies is.of.places.rows_ascend x of.1 are (needed_there w of.0 of.1 is of.2) whole) in
    among_at (needed_items w.narrow) of.0 x (of.2 ∙ ap Some (sym same))

-- an item of the part that is needed over the whole beside another one is needed over the part beside that
pub part_but : (w : Widening) (it x : Item) → IsWidening w → Contains (items_of w.part) x
    → among_but (whole_of w it) (needed_items w.wide) (whole_of w x) ≡ true
    → among_but it (needed_items w.narrow) x ≡ true
part_but w it x is at e =
    let parts = and_parts (among (needed_items w.wide) (whole_of w x)) (not (same_item (whole_of w it) (whole_of w x))) e in
    let apart : same_item it x ≡ false = false_from_ne_true (same_item it x)
    (λ (same : same_item it x ≡ true).
    true≢false
    (sym (item_same w.n w.s.copies it x same) ∙ not-true (same_item (whole_of w it) (whole_of w x)) parts.1)) in
    and_from (among (needed_items w.narrow) x) (not (same_item it x)) (part_among w x is at parts.0) (ap not apart)
