-- How many instances a copy function of a part has.
use Rattle.std.proofs.Common.{◌≡◌, ◌≤◌, ◌∙◌, ◌==◌, ℕ, Bool, true, false, not, List, Option, Some, None, length, slice_get, cond, refl, sym, ap, arith}
use Rattle.std.proofs.lemmas.Bool.{false≢true, eqb-true, eqb-false, eq-eqb, ne_eqb, and_parts, and_from}
use Rattle.std.proofs.lemmas.Option.{same_Some, slice_get_within}
use Rattle.currency_base.specs.declared.ids.EntId.{EntId}
use Rattle.currency_base.specs.declared.ids.RowId.{RowId}
use Rattle.currency_base.specs.declared.row.Row.{Row}
use Rattle.copy_functions.specs.Copies.{CopyFunction, source_at}
use Rattle.partial_orders.specs.Pairs.{entity_of}
use Rattle.spec_limits.specs.Instances.{is_one_entity, are_of_one_entity, are_sources_of_one, is_copy_instance, copy_partners, copy_pairs}
use Rattle.part_laws.specs.Parts.{IsCopyPart}
use Rattle.part_laws.proofs.Rows.{entity_of_row}
use Rattle.item_limits.proofs.Sums.{ones_below}
use Rattle.part_limits.proofs.Totals.{of_range}
use Rattle.part_limits.proofs.Placed.{Placed, IsPlaced, IsRowAt, row_at, rows_embedded, one_row}

-- ---- two rows of one entity

record AreOne (rows : List Row) (a b : RowId) : Type 0 where
  differ : a.0 ≡ b.0 → ⊥
  ent : ℕ
  of_a : entity_of rows a.0 ≡ Some ent
  of_b : entity_of rows b.0 ≡ Some ent

is_not : (b : Bool) → not b ≡ true → b ≡ false
is_not true is = absurd (false≢true is)
is_not false is = refl

one_entity : (o p : Option ℕ) → is_one_entity o p ≡ true → (ent : ℕ) × (o ≡ Some ent) × (p ≡ Some ent)
one_entity None p is = absurd (false≢true is)
one_entity (Some a) None is = absurd (false≢true is)
one_entity (Some a) (Some b) is = (a, refl, ap Some (sym (eqb-true a b is)))

are_one : (rows : List Row) (a b : RowId) → are_of_one_entity rows a b ≡ true → AreOne rows a b
are_one rows a b is =
    let parts = and_parts (not (a.0 == b.0)) (is_one_entity (entity_of rows a.0) (entity_of rows b.0)) is in
    let of = one_entity (entity_of rows a.0) (entity_of rows b.0) parts.1 in
    record { differ = eqb-false a.0 b.0 (is_not (a.0 == b.0) parts.0); ent = of.0; of_a = of.1; of_b = of.2 }

one_back : (rows : List Row) (a b : RowId) → AreOne rows a b → are_of_one_entity rows a b ≡ true
one_back rows a b are =
    and_from (not (a.0 == b.0)) (is_one_entity (entity_of rows a.0) (entity_of rows b.0))
    (ap not (ne_eqb a.0 b.0 are.differ))
    (ap (λ (o : Option ℕ). is_one_entity o (entity_of rows b.0)) are.of_a
    ∙ (ap (λ (o : Option ℕ). is_one_entity (Some are.ent) o) are.of_b ∙ eq-eqb are.ent are.ent refl))

-- the entity of a row of the part, and of the row of the whole that it is
entity_whole : (p : Placed) (row old : RowId) (ent : ℕ) → IsPlaced p → slice_get p.rows row.0 ≡ Some old
    → entity_of p.part.rows row.0 ≡ Some ent
    → (e : EntId) × (slice_get p.entities ent ≡ Some e) × (entity_of p.whole.rows old.0 ≡ Some e.0)
entity_whole p row old ent is at of =
    let below = slice_get_within p.rows row.0 old at in
    let many = is.of.per_row in
    let q = row_at p row.0 is (omega (arith, below, many)) in
    let same : q.new.entity.0 ≡ ent = same_Some q.new.entity.0 ent (sym (entity_of_row p.part.rows row.0 q.new q.at_new) ∙ of) in
    let one : q.row ≡ old = same_Some q.row old (sym q.at ∙ at) in (
      q.old.entity,
      sym (ap (slice_get p.entities) same) ∙ q.entity,
      sym (ap (λ (x : RowId). entity_of p.whole.rows x.0) one) ∙ entity_of_row p.whole.rows q.row.0 q.old q.at_old,
    )

one_whole : (p : Placed) (a b old_a old_b : RowId) → IsPlaced p → slice_get p.rows a.0 ≡ Some old_a
    → slice_get p.rows b.0 ≡ Some old_b
    → are_of_one_entity p.part.rows a b ≡ true
    → are_of_one_entity p.whole.rows old_a old_b ≡ true
one_whole p a b old_a old_b is at_a at_b are =
    let one = are_one p.part.rows a b are in
    let of_a = entity_whole p a old_a one.ent is at_a one.of_a in
    let of_b = entity_whole p b old_b one.ent is at_b one.of_b in
    let same : of_a.0 ≡ of_b.0 = same_Some of_a.0 of_b.0 (sym of_a.1 ∙ of_b.1) in
    one_back p.whole.rows old_a old_b
    (record {
      differ = λ e. one.differ (one_row p a.0 b.0 old_a old_b is at_a at_b e);
      ent = of_b.0.0;
      of_a = of_a.2 ∙ ap (λ (e : EntId). Some e.0) same;
      of_b = of_b.2;
    })

-- ---- instances

-- a copy function, one of the part, and the relations of both
pub record Copying : Type 0 where
  pub copy : CopyFunction
  pub new : CopyFunction
  pub target : Placed
  pub source : Placed

pub record IsCopying (c : Copying) : Type 0 where
  pub of : IsCopyPart c.copy c.target.rows c.source.rows c.new
  pub target : IsPlaced c.target
  pub source : IsPlaced c.source

sources_whole : (c : Copying) (a b old_a old_b : RowId) → IsCopying c → slice_get c.target.rows a.0 ≡ Some old_a
    → slice_get c.target.rows b.0 ≡ Some old_b
    → are_sources_of_one c.source.part.rows (source_at c.new a) (source_at c.new b) ≡ true
    → are_sources_of_one c.source.whole.rows (source_at c.copy old_a) (source_at c.copy old_b) ≡ true
sources_whole c a b old_a old_b is at_a at_b are = go (source_at c.new a) (source_at c.new b) refl refl are
  where
    -- the source of the row of the whole
    mapped : (row old from : RowId) → slice_get c.target.rows row.0 ≡ Some old → source_at c.new row ≡ Some from
        → (old_from : RowId) × (slice_get c.source.rows from.0 ≡ Some old_from) × (source_at c.copy old ≡ Some old_from)
    mapped row old from at e =
        let of = is.of.mapped_are row from e in
        let same : of.0 ≡ old = same_Some of.0 old (sym of.2 ∙ at) in
        (of.1, of.3, sym (ap (source_at c.copy) same) ∙ of.4)

    go : (o p : Option RowId) → source_at c.new a ≡ o → source_at c.new b ≡ p → are_sources_of_one c.source.part.rows o p ≡ true
        → are_sources_of_one c.source.whole.rows (source_at c.copy old_a) (source_at c.copy old_b) ≡ true
    go None p e e' one = absurd (false≢true one)
    go (Some x) None e e' one = absurd (false≢true one)
    go (Some x) (Some y) e e' one =
        let from_a = mapped a old_a x at_a e in
        let from_b = mapped b old_b y at_b e' in
        ap (λ (o : Option RowId). are_sources_of_one c.source.whole.rows o (source_at c.copy old_b)) from_a.2
        ∙ (ap (λ (o : Option RowId). are_sources_of_one c.source.whole.rows (Some from_a.0) o) from_b.2
        ∙ one_whole c.source x y from_a.0 from_b.0 is.source from_a.1 from_b.1 one)

instance_whole : (c : Copying) (a b old_a old_b : RowId) → IsCopying c → slice_get c.target.rows a.0 ≡ Some old_a
    → slice_get c.target.rows b.0 ≡ Some old_b
    → is_copy_instance c.new c.target.part.rows c.source.part.rows a b ≡ true
    → is_copy_instance c.copy c.target.whole.rows c.source.whole.rows old_a old_b ≡ true
instance_whole c a b old_a old_b is at_a at_b one =
    let parts = and_parts (are_of_one_entity c.target.part.rows a b)
    (are_sources_of_one c.source.part.rows (source_at c.new a) (source_at c.new b)) one in
    and_from (are_of_one_entity c.target.whole.rows old_a old_b)
    (are_sources_of_one c.source.whole.rows (source_at c.copy old_a) (source_at c.copy old_b))
    (one_whole c.target a b old_a old_b is.target at_a at_b parts.0) (sources_whole c a b old_a old_b is at_a at_b parts.1)

-- no more rows are the second of two such rows
partners_below : (c : Copying) (i : ℕ) (a : IsRowAt c.target i) → IsCopying c
    → copy_partners c.new c.target.part.rows c.source.part.rows i
    ≤ copy_partners c.copy c.target.whole.rows c.source.whole.rows a.row.0
unfolding copy_partners
partners_below c i a is =
    let first : RowId = record { 0 = i } in
    let p = λ (j : ℕ). is_copy_instance c.new c.target.part.rows c.source.part.rows first (record { 0 = j }) in
    let q = λ (j : ℕ). is_copy_instance c.copy c.target.whole.rows c.source.whole.rows a.row (record { 0 = j }) in
    let f = λ (j : ℕ). cond (p j) 1 0 in
    let g = λ (j : ℕ). cond (q j) 1 0 in
    let below = rows_embedded c.target f g is.target
    (λ j under b. ones_below (p j) (q b.row.0) (instance_whole c first (record { 0 = j }) a.row b.row is a.at b.at)) in
    omega (arith, below, of_range f (length c.target.part.rows), of_range g (length c.target.whole.rows))

-- no more pairs
pub copy_pairs_below : (c : Copying) → IsCopying c
    → copy_pairs c.new c.target.part.rows c.source.part.rows ≤ copy_pairs c.copy c.target.whole.rows c.source.whole.rows
unfolding copy_pairs
copy_pairs_below c is =
    let f = copy_partners c.new c.target.part.rows c.source.part.rows in
    let g = copy_partners c.copy c.target.whole.rows c.source.whole.rows in
    let below = rows_embedded c.target f g is.target (λ i under a. partners_below c i a is) in
    omega (arith, below, of_range f (length c.target.part.rows), of_range g (length c.target.whole.rows))
