-- Items of a part: the rows that they name are there, and different ones are different items of the whole.
use Rattle.std.proofs.Common.{◌≡◌, ◌⊎◌, ◌<◌, ◌∙◌, ◌&&◌, ◌==◌, ℕ, true, List, Option, Some, None, Contains, slice_get, sym, ap, subst, ⊎_elim, arith}
use Rattle.std.proofs.lemmas.Bool.{and_from, and_parts, cases_order, eq-eqb, eqb-true, false≢true}
use Rattle.std.proofs.lemmas.Option.{get_or_from_slice_get, none-some, slice_get_within}
use Rattle.currency_base.specs.declared.ids.CopyId.{CopyId}
use Rattle.currency_base.specs.declared.ids.RelId.{RelId}
use Rattle.currency_base.specs.declared.ids.RowId.{RowId}
use Rattle.currency_base.specs.declared.pair.Pair.{Pair}
use Rattle.copy_functions.specs.Copies.{CopyFunction}
use Rattle.minimal_items.specs.Among.{same_item}
use Rattle.minimal_items.proofs.Same.{same_itself, same_of}
use Rattle.part_items.specs.Items.{target_rows, whole_item}
use Rattle.part_laws.specs.Parts.{Scope, Places, rows_in, whole_row, RowsAscend, IsPairPart, IsPartOf}
use Rattle.part_laws.proofs.Rows.{at_place, there}
use Rattle.spec_items.specs.declared.item.Item.{Item}
use Rattle.spec_items.specs.declared.item.Item.TheVariants as item
use Rattle.spec_model.specs.Spec.{Spec}
use Rattle.part_widens.proofs.Members.{IsOf}

-- ---- rows that are there

-- the rows that an item of a part names are rows of the part
abbrev pub AreThere : Places → List CopyFunction → Item → Type 0
AreThere n copies (item.Given rel p) = (old : Pair) × IsPairPart (rows_in n rel.0) p old
AreThere n copies (item.Rule k) = Unit {0}
AreThere n copies (item.Copy k row) =
    (old : RowId) × (slice_get (target_rows n (slice_get copies k.0)) row.0 ≡ Some old)

pub rows_there : (s : Spec) (scope : Scope) (n : Places) (part : Spec) (i : Item) → IsPartOf s scope n part → IsOf part i
    → AreThere n s.copies i
rows_there s scope n part (item.Given rel p) is of =
    let below = slice_get_within part.relations rel.0 of.0 of.1 in
    let r = there s.relations rel.0 (omega (arith, below, is.per_relation)) in
    let old = (is.relations rel.0 r.0 of.0 r.1 of.1).given_are p of.2 in
    (old.0, old.1)
rows_there s scope n part (item.Rule k) is of = tt
rows_there s scope n part (item.Copy k row) is of =
    let below = slice_get_within part.copies k.0 of.0 of.2 in
    let copy = there s.copies k.0 (omega (arith, below, is.per_copy)) in
    let old = (is.copies k.0 copy.0 of.0 copy.1 of.2).mapped_are row of.1 of.3 in
    (old.0, subst (λ (o : Option CopyFunction). slice_get (target_rows n o) row.0 ≡ Some old.0) (sym copy.1) old.2)

-- an item of the whole names a row that the part has
abbrev pub HasRow : Places → List CopyFunction → Item → Type 0
HasRow n copies (item.Given rel p) = Contains (rows_in n rel.0) p.earlier
HasRow n copies (item.Rule k) = Unit {0}
HasRow n copies (item.Copy k row) = Contains (target_rows n (slice_get copies k.0)) row

row_contained : (rows : List RowId) (row old : RowId) → slice_get rows row.0 ≡ Some old → Contains rows (whole_row rows row)
row_contained rows row old at =
    at_place rows row.0 (whole_row rows row) (at ∙ ap Some (sym (get_or_from_slice_get rows row.0 old row at)))

pub has_row : (n : Places) (copies : List CopyFunction) (i : Item) → AreThere n copies i → HasRow n copies (whole_item n copies i)
has_row n copies (item.Given rel p) are = row_contained (rows_in n rel.0) p.earlier are.0.earlier are.1.earlier
has_row n copies (item.Rule k) are = tt
has_row n copies (item.Copy k row) are = row_contained (target_rows n (slice_get copies k.0)) row are.0 are.1

-- ---- different items

place_once : (rows : List RowId) (i j : ℕ) (x y : RowId) → RowsAscend rows → slice_get rows i ≡ Some x
    → slice_get rows j ≡ Some y → x.0 ≡ y.0 → i ≡ j
place_once rows i j x y ascend at_i at_j same =
    ⊎_elim
    (λ (e : i ≡ j). e)
    (λ (apart : (i < j) ⊎ (j < i)).
    ⊎_elim
    (λ (low : i < j). absurd (let less = ascend i j x y low at_i at_j in omega (arith, less, same)))
    (λ (high : j < i). absurd (let less = ascend j i y x high at_j at_i in omega (arith, less, same)))
    apart)
    (cases_order i j)

-- two rows of the part are one where they are one row of the whole
row_once : (rows others : List RowId) (x y old_x old_y : RowId) → rows ≡ others → RowsAscend rows
    → slice_get rows x.0 ≡ Some old_x → slice_get others y.0 ≡ Some old_y
    → (whole_row rows x).0 == (whole_row others y).0 ≡ true → x.0 == y.0 ≡ true
row_once rows others x y old_x old_y same ascend at_x at_y e =
    let of_x = ap (λ (row : RowId). row.0) (get_or_from_slice_get rows x.0 old_x x at_x) in
    let of_y = ap (λ (row : RowId). row.0) (get_or_from_slice_get others y.0 old_y y at_y) in
    let one = eqb-true (whole_row rows x).0 (whole_row others y).0 e in
    let moved : slice_get rows y.0 ≡ Some old_y = ap (λ (l : List RowId). slice_get l y.0) same ∙ at_y in
    eq-eqb x.0 y.0 (place_once rows x.0 y.0 old_x old_y ascend at_x moved (sym of_x ∙ one ∙ of_y))

targets_ascend : (n : Places) (copy : Option CopyFunction) → ((rel : ℕ) → RowsAscend (rows_in n rel))
    → RowsAscend (target_rows n copy)
targets_ascend n None ascend = λ i j x y low at_i at_j. absurd (none-some x at_i)
targets_ascend n (Some copy) ascend = ascend copy.target.0

module _ (n : Places) (copies : List CopyFunction) (ascend : (rel : ℕ) → RowsAscend (rows_in n rel)) where
  pairs_once : (rel other : RelId) (p q : Pair) → AreThere n copies (item.Given rel p) → AreThere n copies (item.Given other q)
      → same_item (whole_item n copies (item.Given rel p)) (whole_item n copies (item.Given other q)) ≡ true
      → same_item (item.Given rel p) (item.Given other q) ≡ true
  pairs_once rel other p q are too e =
      let rows = rows_in n rel.0 in
      let others = rows_in n other.0 in
      let earlier = (whole_row rows p.earlier).0 == (whole_row others q.earlier).0 in
      let later = (whole_row rows p.later).0 == (whole_row others q.later).0 in
      let three = and_parts (rel.0 == other.0 && p.attr.0 == q.attr.0 && earlier) later e in
      let two = and_parts (rel.0 == other.0 && p.attr.0 == q.attr.0) earlier three.0 in
      let one = and_parts (rel.0 == other.0) (p.attr.0 == q.attr.0) two.0 in
      let same : rows ≡ others = ap (rows_in n) (eqb-true rel.0 other.0 one.0) in
      let first = row_once rows others p.earlier q.earlier are.0.earlier too.0.earlier same (ascend rel.0)
      are.1.earlier too.1.earlier two.1 in
      let second = row_once rows others p.later q.later are.0.later too.0.later same (ascend rel.0)
      are.1.later too.1.later three.1 in
      and_from (rel.0 == other.0 && p.attr.0 == q.attr.0 && p.earlier.0 == q.earlier.0) (p.later.0 == q.later.0)
      (and_from (rel.0 == other.0 && p.attr.0 == q.attr.0) (p.earlier.0 == q.earlier.0) two.0 first) second

  copies_once : (k other : CopyId) (x y : RowId) → AreThere n copies (item.Copy k x) → AreThere n copies (item.Copy other y)
      → same_item (whole_item n copies (item.Copy k x)) (whole_item n copies (item.Copy other y)) ≡ true
      → same_item (item.Copy k x) (item.Copy other y) ≡ true
  copies_once k other x y are too e =
      let rows = target_rows n (slice_get copies k.0) in
      let others = target_rows n (slice_get copies other.0) in
      let one = and_parts (k.0 == other.0) ((whole_row rows x).0 == (whole_row others y).0) e in
      let same : rows ≡ others = ap (λ m. target_rows n (slice_get copies m)) (eqb-true k.0 other.0 one.0) in
      and_from (k.0 == other.0) (x.0 == y.0) one.0
      (row_once rows others x y are.0 too.0 same (targets_ascend n (slice_get copies k.0) ascend) are.1 too.1 one.1)

  -- two items of the part are one where they are one of the whole
  pub item_once : (x y : Item) → AreThere n copies x → AreThere n copies y
      → same_item (whole_item n copies x) (whole_item n copies y) ≡ true → same_item x y ≡ true
  item_once (item.Given rel p) (item.Given other q) are too e = pairs_once rel other p q are too e
  item_once (item.Given rel p) (item.Rule k) are too e = absurd (false≢true e)
  item_once (item.Given rel p) (item.Copy k row) are too e = absurd (false≢true e)
  item_once (item.Rule k) (item.Given rel p) are too e = absurd (false≢true e)
  item_once (item.Rule k) (item.Rule other) are too e = e
  item_once (item.Rule k) (item.Copy other row) are too e = absurd (false≢true e)
  item_once (item.Copy k row) (item.Given rel p) are too e = absurd (false≢true e)
  item_once (item.Copy k row) (item.Rule other) are too e = absurd (false≢true e)
  item_once (item.Copy k x) (item.Copy other y) are too e = copies_once k other x y are too e

-- and one of the whole where they are one
pub item_same : (n : Places) (copies : List CopyFunction) (x y : Item) → same_item x y ≡ true
    → same_item (whole_item n copies x) (whole_item n copies y) ≡ true
item_same n copies x y e =
    subst (λ (z : Item). same_item (whole_item n copies x) (whole_item n copies z) ≡ true) (same_of x y e)
    (same_itself (whole_item n copies x))
