-- What forced pairs tell holds in every consistent completion.
use Rattle.std.proofs.Common.{◌≡◌, ◌∙◌, ◌-◌, ◌<◌, ◌≤◌, ℕ, zero, suc, List, [], ◌∷◌, All, Contains, Option, Some, length, map, slice_get, refl, sym, ap, subst, ⊎_elim, arith}
use Rattle.std.proofs.lemmas.Bool.{cases_lt}
use Rattle.std.proofs.lemmas.List.{length-map}
use Rattle.std.proofs.lemmas.Option.{get_or_from_slice_get, none-some, same_Some, slice_get-get_or, slice_get_within}
use Rattle.currency_base.specs.Values.{kind_of}
use Rattle.currency_base.specs.declared.ids.RowId.{RowId}
use Rattle.currency_base.specs.declared.row.Row.{Row}
use Rattle.currency_base.specs.declared.value.Value.{Value}
use Rattle.denial_rules.specs.Instances.{field_value, value_in}
use Rattle.entity_lists.specs.Lists.{entities_of, rows_of}
use Rattle.entity_lists.proofs.Facts.{entities_at, found_in}
use Rattle.forced_closure.specs.Laws.{ForcedPairsHold}
use Rattle.forced_closure.proofs.RowOrders.{all_at, not_both_ways}
use Rattle.match_premises.specs.declared.premise.Premise.{Premise}
use Rattle.partial_orders.specs.Pairs.{entity_of}
use Rattle.posed_facts.specs.Facts.{IsCurrent, IsPlaced}
use Rattle.report_verify.specs.Right.{EachConsistent}
use Rattle.spec_model.specs.Completion.{Before, IsCompletion, IsRanking, Rankings, lists_of, ranking_of}
use Rattle.spec_model.specs.Consistent.{IsConsistent}
use Rattle.spec_model.specs.Current.{last_row}
use Rattle.spec_model.specs.Facts.{IsRelation, IsSpecification, kinds_of}
use Rattle.spec_model.specs.Spec.{Spec}
use Rattle.spec_model.specs.declared.relation.Relation.{Relation}
use Rattle.forced_values.specs.Values.{GivesWay, IsClaimForced}
use Rattle.forced_values.specs.Values.GivesWay.{same, before}

-- ---- lists

-- an item stands at each place
item_at : {A : Type 0} (xs : List A) (i : ℕ) → i < length xs → (x : A) × (slice_get xs i ≡ Some x)
item_at [] i below = absurd (omega arith)
item_at (x ∷ xs) zero below = (x, refl)
item_at (x ∷ xs) (suc i) below = item_at xs i (omega arith)

-- what stands at a place is in the list
is_in : {A : Type 0} (xs : List A) (k : ℕ) (x : A) → slice_get xs k ≡ Some x → Contains xs x
is_in xs k x at = (k, slice_get_within xs k x at, get_or_from_slice_get xs k x x at)

-- and what is in the list stands at a place
stands_at : {A : Type 0} (xs : List A) (x : A) → Contains xs x → (k : ℕ) × (slice_get xs k ≡ Some x)
stands_at xs x is = (is.0, slice_get-get_or xs is.0 x is.1 ∙ ap Some is.2)

-- ---- the claim's place

-- a row stands for its entity
entity_of_row : (rows : List Row) (at : ℕ) (row : Row) → slice_get rows at ≡ Some row → entity_of rows at ≡ Some row.entity.0
entity_of_row [] at row is = absurd (none-some row is)
entity_of_row (r ∷ rows) zero row is = ap (λ (q : Row). Some q.entity.0) (same_Some r row is)
entity_of_row (r ∷ rows) (suc at) row is = entity_of_row rows at row is

-- and its entity is that of its number
entity_there : (rows : List Row) (row ent : ℕ) → entity_of rows row ≡ Some ent → slice_get (entities_of rows) row ≡ Some ent
entity_there rows row ent of = by (slice_get rows row) refl
  where
    by : (o : Option Row) → slice_get rows row ≡ o → slice_get (entities_of rows) row ≡ Some ent
    by o e = entities_at rows row ∙ of

-- a claim that can be made, on a row whose entity's rows are ranked in a completion
record IsAt (s : Spec) (c : Rankings) (p : Premise) (told : IsClaimForced s p) : Type 0 where
  value : Value
  is_value : slice_get told.rows_are.row.values p.attr.0 ≡ Some value
  ranking : IsRanking told.rows_are.relation.rows told.rows_are.row.entity.0
      (ranking_of c p.rel.0 p.attr.0 told.rows_are.row.entity.0)

-- a row has as many values as its relation has attributes
values_many : (r : Relation) → IsRelation r → (at : ℕ) (row : Row) → slice_get r.rows at ≡ Some row
    → length row.values ≡ length r.attrs
values_many r fits at row is =
    sym (length-map row.values kind_of)
    ∙ ap (λ l. length l) (all_at (λ (w : Row). map kind_of w.values ≡ kinds_of r) r.rows at row fits.values is)
    ∙ length-map r.attrs (λ a. a.kind)

is_at : (s : Spec) → IsSpecification s → (c : Rankings) → IsCompletion s.relations c → (p : Premise)
    → IsPlaced s.relations p → (told : IsClaimForced s p) → IsAt s c p told
is_at s is c completion p placed told =
    let r = told.rows_are.relation in
    let row = told.rows_are.row in
    let own : placed.relation ≡ r = same_Some placed.relation r (sym placed.is_relation ∙ told.rows_are.is_relation) in
    let attr_in : p.attr.0 < length r.attrs = subst (λ (q : Relation). p.attr.0 < length q.attrs) own placed.attr in
    let fits : IsRelation r = all_at IsRelation s.relations p.rel.0 r is.relations.each told.rows_are.is_relation in
    let ent_in : row.entity.0 < length r.entities =
    all_at (λ (w : Row). w.entity.0 < length r.entities) r.rows p.row.0 row fits.entities told.rows_are.is_row in
    let value = item_at row.values p.attr.0 (omega (arith, attr_in, values_many r fits p.row.0 row told.rows_are.is_row)) in
    record {
      value = value.0;
      is_value = value.1;
      ranking = completion.ranked p.rel.0 r told.rows_are.is_relation p.attr.0 row.entity.0 attr_in ent_in;
    }

-- what holds of each row of an entity holds of a row that stands for it
of_each : (P : RowId → Type 0) (table : List Row) (ent : ℕ) (rows : List RowId) → rows ≡ rows_of (entities_of table) ent
    → All P rows → (row : RowId) → entity_of table row.0 ≡ Some ent → P row
of_each P table ent rows are all row of =
    let found = found_in (entities_of table) ent row (entity_there table row.0 ent of) in
    all_at P rows found.0 row all (ap (λ l. slice_get l found.0) are ∙ found.1)

-- ---- the last row

-- no row that is last in a ranking stands before a row of it
not_before : (relations : List Relation) (c : Rankings) (rel attr ent : ℕ) (last row : RowId) → IsCompletion relations c
    → last_row (ranking_of c rel attr ent) ≡ Some last → Contains (ranking_of c rel attr ent) row
    → Before (lists_of c rel attr) last row → ⊥
not_before relations c rel attr ent last row completion at has stands =
    let list = ranking_of c rel attr ent in
    let found = stands_at list row has in
    let within = slice_get_within list found.0 row found.1 in
    ⊎_elim
    (λ (below : found.0 < length list - 1).
    not_both_ways relations c rel attr last row completion stands
    record { ent = ent; low = found.0; high = length list - 1; below = below; first = found.1; second = at })
    (λ (above : length list - 1 ≤ found.0).
    let end : length list - 1 ≡ found.0 = omega (arith, above, within) in
    let one : row ≡ last = same_Some row last (sym found.1 ∙ ap (slice_get list) (sym end) ∙ at) in
    let itself = subst (λ d. Before (lists_of c rel attr) last d) one stands in
    not_both_ways relations c rel attr last last completion itself itself)
    (cases_lt found.0 (length list - 1))

-- where the last row gives way to the claim's row it has the claim's value
last_value : ForcedPairsHold → (s : Spec) → IsSpecification s → (c : Rankings) → IsConsistent s c → (p : Premise)
    → (table : List Row) (ent : ℕ) (last : RowId) → last_row (ranking_of c p.rel.0 p.attr.0 ent) ≡ Some last
    → Contains (ranking_of c p.rel.0 p.attr.0 ent) p.row → GivesWay s p table last
    → field_value table (Some last) p.attr.0 ≡ field_value table (Some p.row) p.attr.0
last_value law s is c consistent p table ent last at has (same e) = e
last_value law s is c consistent p table ent last at has (before forced) =
    absurd (not_before s.relations c p.rel.0 p.attr.0 ent last p.row consistent.completion at has
    (law s c is consistent p.rel.0 p.attr.0 last p.row forced))

-- the value of the last row is that of the claim's row, where these are one
claimed_last : (table : List Row) (list : List RowId) (attr : ℕ) (last own : RowId) (row : Row) (value : Value)
    → last_row list ≡ Some last → field_value table (Some last) attr ≡ field_value table (Some own) attr
    → slice_get table own.0 ≡ Some row → slice_get row.values attr ≡ Some value
    → field_value table (last_row list) attr ≡ Some value
claimed_last table list attr last own row value at one is_row is_value =
    ap (λ o. field_value table o attr) at ∙ one ∙ ap (λ o. value_in o attr) is_row ∙ is_value

-- what forced pairs tell is the current value in each consistent completion
pub forced_holds : ForcedPairsHold → (s : Spec) → IsSpecification s → (p : Premise) → IsPlaced s.relations p → IsClaimForced s p
    → EachConsistent s (IsCurrent s.relations p)
forced_holds law s is p placed told c consistent =
    let r = told.rows_are.relation in
    let row = told.rows_are.row in
    let ent = row.entity.0 in
    let list = ranking_of c p.rel.0 p.attr.0 ent in
    let at = is_at s is c consistent.completion p placed told in
    let own : entity_of r.rows p.row.0 ≡ Some ent = entity_of_row r.rows p.row.0 row told.rows_are.is_row in
    let has : Contains list p.row = at.ranking.all p.row own in
    let last = item_at list (length list - 1) (omega (arith, has.1)) in
    let of : entity_of r.rows last.0.0 ≡ Some ent = at.ranking.only last.0 (is_in list (length list - 1) last.0 last.1) in
    let gives : GivesWay s p r.rows last.0 =
    of_each (GivesWay s p r.rows) r.rows ent told.rows told.rows_are.are told.each last.0 of in
    record {
      relation = r;
      is_relation = told.rows_are.is_relation;
      row = row;
      is_row = told.rows_are.is_row;
      value = at.value;
      is_value = at.is_value;
      current = claimed_last r.rows list p.attr.0 last.0 p.row row at.value last.1
          (last_value law s is c consistent p r.rows ent last.0 last.1 has gives) told.rows_are.is_row at.is_value;
    }
