-- How many rows a relation of a part has, and of one entity.
use Rattle.std.proofs.Common.{◌≡◌, ◌≤◌, ◌+◌, ◌*◌, ◌∙◌, ◌==◌, ℕ, suc, Bool, true, false, List, [], ◌∷◌, Option, Some, None, length, slice_get, cond, refl, sym, ap, subst, arith}
use Rattle.std.specs.Prelude.{nat_lt}
use Rattle.std.specs.List.{list_any}
use Rattle.std.specs.Option.{option_map_or}
use Rattle.std.proofs.lemmas.Bool.{eqb-true, eq-eqb, le-ltb, ltb-false}
use Rattle.std.proofs.lemmas.Nat.{mul-le}
use Rattle.std.proofs.lemmas.Option.{same_Some, slice_get_within}
use Rattle.currency_base.specs.declared.ids.EntId.{EntId}
use Rattle.currency_base.specs.declared.row.Row.{Row}
use Rattle.spec_limits.specs.Limits.{rows_of, is_crowded, entity_pairs}
use Rattle.spec_limits.specs.Instances.{sum_by_entity, two_for_each_three, order_instances}
use Rattle.spec_model.specs.declared.relation.Attr.{Attr}
use Rattle.item_limits.proofs.Sums.{none_passes, fails_at, ones_below}
use Rattle.part_limits.proofs.Totals.{total, first_apart, alike, added, ones, at_place, of_list, of_range, Grows, threes_grow}
use Rattle.part_limits.proofs.Placed.{Placed, IsPlaced, IsRowAt, row_at, rows_embedded, rows_before, entities_embedded}

-- no more rows
pub rows_below : (p : Placed) → IsPlaced p → length p.part.rows ≤ length p.whole.rows
rows_below p is =
    let below = rows_embedded p (λ i. 1) (λ i. 1) is (λ i under q. omega arith) in
    omega (arith, below, ones (length p.part.rows), ones (length p.whole.rows))

-- rows of one entity of the part are of one of the whole
pub one_entity : (p : Placed) (a : ℕ) (x y : EntId) (b : ℕ) → slice_get p.entities a ≡ Some x → slice_get p.entities b ≡ Some y
    → (a == b) ≡ true → (x.0 == y.0) ≡ true
one_entity p a x y b at at' is =
    let same : x ≡ y = same_Some x y (sym at ∙ (ap (slice_get p.entities) (eqb-true a b is) ∙ at')) in
    eq-eqb x.0 y.0 (ap (λ (z : EntId). z.0) same)

-- no more rows of one entity
pub of_one_below : (p : Placed) (k : ℕ) (ent : EntId) → IsPlaced p → slice_get p.entities k ≡ Some ent
    → rows_of k p.part.rows ≤ rows_of ent.0 p.whole.rows
of_one_below p k ent is is_ent =
    let f = λ (row : Row). cond (row.entity.0 == k) 1 0 in
    let g = λ (row : Row). cond (row.entity.0 == ent.0) 1 0 in
    let below =
    rows_embedded p (at_place f p.part.rows) (at_place g p.whole.rows) is
    (λ i under q.
    let one = ones_below (q.new.entity.0 == k) (q.old.entity.0 == ent.0)
    (one_entity p q.new.entity.0 q.old.entity ent k q.entity is_ent) in
    let in_part = ap (λ (o : Option Row). option_map_or f o 0) q.at_new in
    let in_whole = ap (λ (o : Option Row). option_map_or g o 0) q.at_old in
    omega (arith, one, in_part, in_whole)) in
    omega (arith, below, of_list f p.part.rows, of_list g p.whole.rows)

pub not_crowded : (p : Placed) → IsPlaced p → is_crowded p.whole.rows ≡ false → is_crowded p.part.rows ≡ false
not_crowded p is none =
    none_passes (λ (row : Row). nat_lt 64 (rows_of row.entity.0 p.part.rows)) (λ (row : Row). false) p.part.rows p.part.rows
    (omega arith)
    (λ i x y at at' e.
    let q = row_at p i is (slice_get_within p.part.rows i x at) in
    let same : q.new ≡ x = same_Some q.new x (sym q.at_new ∙ at) in
    let below = of_one_below p q.new.entity.0 q.old.entity is q.entity in
    let few = fails_at (λ (row : Row). nat_lt 64 (rows_of row.entity.0 p.whole.rows)) p.whole.rows q.row.0 q.old none q.at_old in
    let under = ltb-false 64 (rows_of q.old.entity.0 p.whole.rows) few in
    subst (λ (row : Row). nat_lt 64 (rows_of row.entity.0 p.part.rows) ≡ false) same
    (le-ltb 64 (rows_of q.new.entity.0 p.part.rows) (omega (arith, below, under))))
    (none_of p.part.rows)
  where
    none_of : (rows : List Row) → list_any (λ (row : Row). false) rows ≡ false
    none_of [] = refl
    none_of (row ∷ rows) = none_of rows

-- ---- pairs of rows of one entity

-- both rows are there, and are of one entity
abbrev is_one : Option Row → Option Row → Bool
is_one (Some a) (Some b) = a.entity.0 == b.entity.0
is_one a b = false

abbrev together : List Row → ℕ → ℕ → ℕ
together rows j i = cond (is_one (slice_get rows j) (slice_get rows i)) 1 0

abbrev before_of : List Row → ℕ → ℕ
before_of rows j = total (together rows j) j

-- with the first row
with_first : (x : Row) (o : Option Row)
    → ◌≡◌ {A = ℕ} (cond (is_one o (Some x)) 1 0) (option_map_or (λ (row : Row). cond (row.entity.0 == x.entity.0) 1 0) o 0)
with_first x None = refl
with_first x (Some row) = refl

pairs_are : (rows : List Row) → entity_pairs rows ≡ total (before_of rows) (length rows)
pairs_are [] = refl
pairs_are (x ∷ xs) =
    let f = λ (row : Row). cond (row.entity.0 == x.entity.0) 1 0 in
    let more = pairs_are xs in
    let apart : total (before_of (x ∷ xs)) (suc (length xs)) ≡ 0 + total (λ j. before_of (x ∷ xs) (suc j)) (length xs) =
    first_apart (before_of (x ∷ xs)) (length xs) in
    let each = alike (λ j. before_of (x ∷ xs) (suc j)) (λ j. at_place f xs j + before_of xs j) (length xs)
    (λ j.
    let step : before_of (x ∷ xs) (suc j) ≡ cond (is_one (slice_get xs j) (Some x)) 1 0 + before_of xs j =
    first_apart (together (x ∷ xs) (suc j)) j in
    let one = with_first x (slice_get xs j) in
    omega (arith, step, one)) in
    omega (arith, more, apart, each, added (at_place f xs) (before_of xs) (length xs), of_list f xs)

-- no more such pairs
pub pairs_below : (p : Placed) → IsPlaced p → entity_pairs p.part.rows ≤ entity_pairs p.whole.rows
pairs_below p is =
    let below = rows_embedded p (before_of p.part.rows) (before_of p.whole.rows) is
    (λ j under b.
    rows_before p (together p.part.rows j) (together p.whole.rows b.row.0) j is under b (λ i low a. together_below i j a b)) in
    omega (arith, below, pairs_are p.part.rows, pairs_are p.whole.rows)
  where
    together_below : (i j : ℕ) (a : IsRowAt p i) (b : IsRowAt p j)
        → together p.part.rows j i ≤ together p.whole.rows b.row.0 a.row.0
    together_below i j a b =
        let one = ones_below (b.new.entity.0 == a.new.entity.0) (b.old.entity.0 == a.old.entity.0)
        (one_entity p b.new.entity.0 b.old.entity a.old.entity a.new.entity.0 b.entity a.entity) in
        let in_part : together p.part.rows j i ≡ cond (b.new.entity.0 == a.new.entity.0) 1 0 =
        ap (λ (o : Option Row). cond (is_one o (slice_get p.part.rows i)) 1 0) b.at_new
        ∙ ap (λ (o : Option Row). cond (is_one (Some b.new) o) 1 0) a.at_new in
        let in_whole : together p.whole.rows b.row.0 a.row.0 ≡ cond (b.old.entity.0 == a.old.entity.0) 1 0 =
        ap (λ (o : Option Row). cond (is_one o (slice_get p.whole.rows a.row.0)) 1 0) b.at_old
        ∙ ap (λ (o : Option Row). cond (is_one (Some b.old) o) 1 0) a.at_old in
        omega (arith, one, in_part, in_whole)

-- ---- sums over entities

pub by_entity_below : (p : Placed) (term : ℕ → ℕ) → IsPlaced p → Grows term
    → sum_by_entity term p.part ≤ sum_by_entity term p.whole
by_entity_below p term is grows =
    let f = λ (ent : ℕ). term (rows_of ent p.part.rows) in
    let g = λ (ent : ℕ). term (rows_of ent p.whole.rows) in
    let below = entities_embedded p f g is
    (λ i ent at. grows (rows_of i p.part.rows) (rows_of ent.0 p.whole.rows) (of_one_below p i ent is at)) in
    omega (arith, below, of_range f (length p.part.entities), of_range g (length p.whole.entities))

pub same_attrs : (p : Placed) → IsPlaced p → length p.part.attrs ≡ length p.whole.attrs
same_attrs p is = ap (λ (l : List Attr). length l) is.of.attrs

pub variables_below : (p : Placed) → IsPlaced p
    → length p.part.attrs * entity_pairs p.part.rows ≤ length p.whole.attrs * entity_pairs p.whole.rows
variables_below p is =
    let attrs = same_attrs p is in
    mul-le (length p.part.attrs) (entity_pairs p.part.rows) (length p.whole.attrs) (entity_pairs p.whole.rows)
    (omega (arith, attrs))
    (pairs_below p is)

pub orders_below : (p : Placed) → IsPlaced p → order_instances p.part ≤ order_instances p.whole
unfolding order_instances
orders_below p is =
    let attrs = same_attrs p is in
    mul-le (length p.part.attrs) (sum_by_entity two_for_each_three p.part) (length p.whole.attrs)
    (sum_by_entity two_for_each_three p.whole)
    (omega (arith, attrs)) (by_entity_below p two_for_each_three is threes_grow)
