-- The rows of an entity, and the choices among some rows.
use Rattle.std.proofs.Common.{◌≡◌, ◌+◌, ◌-◌, ◌<◌, ◌≤◌, inl, inr, ℕ, zero, suc, Bool, true, false, cond, eqb, eqb-true, eq-eqb, List, [], ◌∷◌, map, length, Some, slice_get, refl, sym, ap, ◌∙◌, arith}
use Rattle.std.specs.List.{All}
use Rattle.std.proofs.lemmas.List.Elements.{All-nil, All-cons, All-head, All-tail}
use Rattle.std.proofs.lemmas.Option.{same_Some, none-some}
use Rattle.currency_base.specs.declared.ids.RowId.{RowId}
use Rattle.currency_base.specs.declared.row.Row.{Row}
use Rattle.entity_lists.specs.Lists.{entities_of, rows_from}
use Rattle.partial_orders.specs.Pairs.{entity_of}
use Rattle.entity_ground.specs.Grounds.{choices}
use Rattle.entity_ground.proofs.Among.{Among, Apart, in_flat, in_fronted, of_flat, of_fronted, apart_flat, apart_fronted, same_first}

-- ---- the rows of an entity

-- a number of the rows from a first one on
pub of_rows : (first : ℕ) (es : List ℕ) (ent : ℕ) (x : RowId) → Among (rows_from first es ent) x → (first ≤ x.0) ×
    (slice_get es (x.0 - first) ≡ Some ent)
of_rows first [] ent x is = absurd is
of_rows first (e ∷ es) ent x is = by (eqb e ent) refl is (λ more. of_rows (first + 1) es ent x more)
  where
    later : (first + 1 ≤ x.0) × (slice_get es (x.0 - (first + 1)) ≡ Some ent) → (first ≤ x.0) ×
        (slice_get (e ∷ es) (x.0 - first) ≡ Some ent)
    later (after, at) = let one : x.0 - first ≡ suc (x.0 - (first + 1)) = omega arith in (omega arith, rw one at)

    by : (b : Bool) → eqb e ent ≡ b → Among (cond b (record { 0 = first } ∷ rows_from (first + 1) es ent)
        (rows_from (first + 1) es ent)) x
        → (Among (rows_from (first + 1) es ent) x → (first + 1 ≤ x.0) × (slice_get es (x.0 - (first + 1)) ≡ Some ent))
        → (first ≤ x.0) × (slice_get (e ∷ es) (x.0 - first) ≡ Some ent)
    by true tested (inl here) more =
        let number : first ≡ x.0 = ap (λ (r : RowId). r.0) here in
        let none : x.0 - first ≡ 0 = omega arith in
        let same : e ≡ ent = eqb-true e ent tested in
        (omega arith, rw none (ap (λ n. Some n) same))
    by true tested (inr there) more = later (more there)
    by false tested there more = later (more there)

pub in_rows : (first : ℕ) (es : List ℕ) (ent k : ℕ) → slice_get es k ≡ Some ent → Among (rows_from first es ent)
    (record { 0 = first + k })
in_rows first [] ent k at = absurd (none-some ent at)
in_rows first (e ∷ es) ent zero at =
    let same : e ≡ ent = same_Some e ent at in
    let row : record { 0 = first } ≡ record { 0 = first + 0 } = ap (λ n. record { 0 = n }) (omega arith) in
    let tested : eqb e ent ≡ true = eq-eqb e ent same in
    rw tested (inl row)
in_rows first (e ∷ es) ent (suc k) at = by (eqb e ent) (in_rows (first + 1) es ent k at)
  where
    next : first + suc k ≡ first + 1 + k
    next = omega arith

    by : (b : Bool) → Among (rows_from (first + 1) es ent) (record { 0 = first + 1 + k })
        → Among (cond b (record { 0 = first } ∷ rows_from (first + 1) es ent) (rows_from (first + 1) es ent))
        (record { 0 = first + suc k })
    by true more = inr (rw next more)
    by false more = rw next more

pub apart_rows : (first : ℕ) (es : List ℕ) (ent : ℕ) → Apart (rows_from first es ent)
apart_rows first [] ent = tt
apart_rows first (e ∷ es) ent = by (eqb e ent) (apart_rows (first + 1) es ent)
  where
    by : (b : Bool) → Apart (rows_from (first + 1) es ent)
        → Apart (cond b (record { 0 = first } ∷ rows_from (first + 1) es ent) (rows_from (first + 1) es ent))
    by true more = (λ is. let at = of_rows (first + 1) es ent (record { 0 = first }) is in omega (arith, at.0), more)
    by false more = more

-- the entity of a row is that of its place
pub entity_at_place : (table : List Row) (i : ℕ) → slice_get (entities_of table) i ≡ entity_of table i
entity_at_place [] i = refl
entity_at_place (r ∷ table) zero = refl
entity_at_place (r ∷ table) (suc i) = entity_at_place table i

pub entity_below : (table : List Row) (n i ent : ℕ) → All (λ row. row.entity.0 < n) table → entity_of table i ≡ Some ent → ent < n
entity_below [] n i ent all at = absurd (none-some ent at)
entity_below (r ∷ table) n zero ent all at =
    let same : r.entity.0 ≡ ent = same_Some r.entity.0 ent at in
    let below : r.entity.0 < n = All-head (λ row. row.entity.0 < n) r table all in
    omega arith
entity_below (r ∷ table) n (suc i) ent all at = entity_below table n i ent (All-tail (λ row. row.entity.0 < n) r table all) at

-- ---- choices

pub in_choices : (members rows : List RowId) → All (Among members) rows → Among (choices (length rows) members) rows
in_choices members [] all = inl refl
in_choices members (row ∷ rows) all =
    in_flat (λ x. map (λ rest. x ∷ rest) (choices (length rows) members)) members row (row ∷ rows)
    (All-head (Among members) row rows all)
    (in_fronted row (choices (length rows) members) rows (in_choices members rows (All-tail (Among members) row rows all)))

pub of_choices : (vars : ℕ) (members rows : List RowId) → Among (choices vars members) rows →
    (length rows ≡ vars) × All (Among members) rows
of_choices zero members rows (inl is) = (ap (λ l. length l) (sym is), rw (sym is) (All-nil (Among members)))
of_choices zero members rows (inr is) = absurd is
of_choices (suc vars) members rows is =
    let made = of_flat (λ x. map (λ rest. x ∷ rest) (choices vars members)) members rows is in
    let front = of_fronted made.item (choices vars members) rows made.makes in
    let rest = of_choices vars members front.rest front.among in
    let count : length rows ≡ suc vars = ap (λ l. length l) front.is ∙ ap (λ n. suc n) rest.0 in
    (count, rw front.is (All-cons (Among members) made.item front.rest made.is_item rest.1))

pub apart_choices : (vars : ℕ) (members : List RowId) → Apart members → Apart (choices vars members)
apart_choices zero members apart = (λ is. is, tt)
apart_choices (suc vars) members apart =
    let before : RowId → List (List RowId) = λ x. map (λ rest. x ∷ rest) (choices vars members) in
    apart_flat before members apart (λ x is. apart_fronted x (choices vars members) (apart_choices vars members apart))
    (λ x y z a b.
    let one = of_fronted x (choices vars members) z a in
    let other = of_fronted y (choices vars members) z b in
    same_first x y one.rest other.rest (sym one.is ∙ other.is))
