-- The lists of a part, and those of the whole.
use Rattle.std.proofs.Common.{◌≡◌, ◌<◌, ◌≤◌, ◌∙◌, ℕ, true, List, [], Contains, Option, Some, None, option_map, length, slice_get, slice_index_or, refl, sym, ap, ⊎_elim, arith}
use Rattle.std.proofs.lemmas.Bool.{cases_lt}
use Rattle.std.proofs.lemmas.List.{get_or_past}
use Rattle.std.proofs.lemmas.Option.{same_Some, none-some, get_or_from_slice_get, slice_get-map}
use Rattle.currency_base.specs.declared.ids.EntId.{EntId}
use Rattle.currency_base.specs.declared.ids.RowId.{RowId}
use Rattle.partial_orders.specs.Pairs.{entity_of}
use Rattle.spec_model.specs.Completion.{IsRanking, Before}
use Rattle.spec_model.specs.declared.relation.Relation.{Relation}
use Rattle.part_laws.specs.Parts.{whole_row}
use Rattle.part_laws.proofs.Rows.{Cut, IsCut, list_at, place_of, at_place, all_at, there, one_part, row_there, old_there, entity_there, scope_of, of_part, of_whole}

-- ---- places in lists

-- what stands at a place in the list of the part, stands there in that of the whole
pub place_whole : (k : Cut) (attr ent : ℕ) (old_ent : EntId) (i : ℕ) (row old : RowId) → IsCut k → attr < length k.whole.attrs
    → slice_get k.entities ent ≡ Some old_ent
    → slice_get (list_at k.part_lists attr ent) i ≡ Some row → slice_get k.rows row.0 ≡ Some old
    → slice_get (list_at k.lists attr old_ent.0) i ≡ Some old
place_whole k attr ent old_ent i row old is inside is_ent at at_row =
    ap (λ (l : List RowId). slice_get l i) (is.same attr inside ent old_ent is_ent)
    ∙ (slice_get-map (whole_row k.rows) (list_at k.part_lists attr ent) i
    ∙ (ap (option_map (whole_row k.rows)) at ∙ ap Some (get_or_from_slice_get k.rows row.0 old row at_row)))

-- and the other way round
pub place_part : (k : Cut) (attr ent : ℕ) (old_ent : EntId) (i : ℕ) (old : RowId) → IsCut k → attr < length k.whole.attrs
    → slice_get k.entities ent ≡ Some old_ent
    → slice_get (list_at k.lists attr old_ent.0) i ≡ Some old
    → (row : RowId) × (slice_get (list_at k.part_lists attr ent) i ≡ Some row) × (slice_get k.rows row.0 ≡ Some old)
place_part k attr ent old_ent i old is inside is_ent at = go (slice_get list i) refl
  where
    list : List RowId
    list = list_at k.part_lists attr ent

    mapped : option_map (whole_row k.rows) (slice_get list i) ≡ Some old
    mapped = sym (slice_get-map (whole_row k.rows) list i)
        ∙ (sym (ap (λ (l : List RowId). slice_get l i) (is.same attr inside ent old_ent is_ent)) ∙ at)

    go : (o : Option RowId) → slice_get list i ≡ o → (row : RowId) × (slice_get list i ≡ Some row) ×
        (slice_get k.rows row.0 ≡ Some old)
    go None e = absurd (none-some old (sym (ap (option_map (whole_row k.rows)) e) ∙ mapped))
    go (Some row) e =
        let below : row.0 < length k.rows = all_at (λ (x : RowId). x.0 < length k.rows) list i row (is.within attr ent) e in
        let found = there k.rows row.0 below in
        let one : whole_row k.rows row ≡ found.0 = get_or_from_slice_get k.rows row.0 found.0 row found.1 in
        let same : whole_row k.rows row ≡ old = same_Some (whole_row k.rows row) old
        (sym (ap (option_map (whole_row k.rows)) e) ∙ mapped) in
        (row, e, found.1 ∙ ap Some (sym one ∙ same))

-- each row of a list of the part is a row of the whole
pub listed_row : (k : Cut) (attr ent i : ℕ) (row : RowId) → IsCut k → slice_get (list_at k.part_lists attr ent) i ≡ Some row
    → (old : RowId) × (slice_get k.rows row.0 ≡ Some old)
listed_row k attr ent i row is at =
    there k.rows row.0 (all_at (λ (x : RowId). x.0 < length k.rows) (list_at k.part_lists attr ent) i row (is.within attr ent) at)

-- ---- rankings

pub ranking_part : (k : Cut) (attr ent : ℕ) (old_ent : EntId) → IsCut k → attr < length k.whole.attrs
    → slice_get k.entities ent ≡ Some old_ent
    → IsRanking k.whole.rows old_ent.0 (list_at k.lists attr old_ent.0) → IsRanking k.part.rows ent
    (list_at k.part_lists attr ent)
ranking_part k attr ent old_ent is inside is_ent ranking = record { only = only; once = once; all = all }
  where
    list : List RowId
    list = list_at k.part_lists attr ent

    old_list : List RowId
    old_list = list_at k.lists attr old_ent.0

    only : (row : RowId) → Contains list row → entity_of k.part.rows row.0 ≡ Some ent
    only row c =
        let at = place_of list row c in
        let old = listed_row k attr ent at.0 row is at.1 in
        let at_old = place_whole k attr ent old_ent at.0 row old.0 is inside is_ent at.1 old.1 in
        of_part k row old.0 ent old_ent is old.1 is_ent (ranking.only old.0 (at_place old_list at.0 old.0 at_old))

    once : (i j : ℕ) (row : RowId) → slice_get list i ≡ Some row → slice_get list j ≡ Some row → i ≡ j
    once i j row at at' =
        let old = listed_row k attr ent i row is at in
        ranking.once i j old.0 (place_whole k attr ent old_ent i row old.0 is inside is_ent at old.1)
        (place_whole k attr ent old_ent j row old.0 is inside is_ent at' old.1)

    all : (row : RowId) → entity_of k.part.rows row.0 ≡ Some ent → Contains list row
    all row of =
        let old = row_there k row ent is of in
        let at = place_of old_list old.0 (ranking.all old.0 (of_whole k row old.0 ent old_ent is old.1 is_ent of)) in
        let found = place_part k attr ent old_ent at.0 old.0 is inside is_ent at.1 in
        at_place list at.0 row (found.1 ∙ ap Some (one_part k found.0 row old.0 is found.2 old.1))

pub ranking_whole : (k : Cut) (attr ent : ℕ) (old_ent : EntId) → IsCut k → attr < length k.whole.attrs
    → slice_get k.entities ent ≡ Some old_ent
    → IsRanking k.part.rows ent (list_at k.part_lists attr ent) → IsRanking k.whole.rows old_ent.0
    (list_at k.lists attr old_ent.0)
ranking_whole k attr ent old_ent is inside is_ent ranking = record { only = only; once = once; all = all }
  where
    list : List RowId
    list = list_at k.part_lists attr ent

    old_list : List RowId
    old_list = list_at k.lists attr old_ent.0

    only : (old : RowId) → Contains old_list old → entity_of k.whole.rows old.0 ≡ Some old_ent.0
    only old c =
        let at = place_of old_list old c in
        let found = place_part k attr ent old_ent at.0 old is inside is_ent at.1 in
        of_whole k found.0 old ent old_ent is found.2 is_ent (ranking.only found.0 (at_place list at.0 found.0 found.1))

    once : (i j : ℕ) (old : RowId) → slice_get old_list i ≡ Some old → slice_get old_list j ≡ Some old → i ≡ j
    once i j old at at' =
        let a = place_part k attr ent old_ent i old is inside is_ent at in
        let b = place_part k attr ent old_ent j old is inside is_ent at' in
        ranking.once i j a.0 a.1 (b.1 ∙ ap Some (one_part k b.0 a.0 old is b.2 a.2))

    inside_scope : k.scope k.rel old_ent.0 ≡ true
    inside_scope = ((is.entities_are old_ent).0 (at_place k.entities ent old_ent is_ent)).1

    all : (old : RowId) → entity_of k.whole.rows old.0 ≡ Some old_ent.0 → Contains old_list old
    all old of =
        let row = old_there k old old_ent.0 is of inside_scope in
        let at = place_of list row.0 (ranking.all row.0 (of_part k row.0 old ent old_ent is row.1 is_ent of)) in
        at_place old_list at.0 old (place_whole k attr ent old_ent at.0 row.0 old is inside is_ent at.1 row.1)

-- ---- one row before another

-- the list of an entity is there
pub list_below : {A : Type 0} (lists : List (List A)) (ent i : ℕ) (x : A) → slice_get (slice_index_or lists ent []) i ≡ Some x
    → ent < length lists
list_below {A} lists ent i x at =
    ⊎_elim
    (λ (h : ent < length lists). h)
    (λ (h : length lists ≤ ent). absurd
    (none-some x (sym (ap (λ (l : List A). slice_get l i) (get_or_past lists ent [] h)) ∙ at)))
    (cases_lt ent (length lists))

pub before_whole : (k : Cut) (attr : ℕ) (a b old_a old_b : RowId) → IsCut k → attr < length k.whole.attrs
    → slice_get k.rows a.0 ≡ Some old_a → slice_get k.rows b.0 ≡ Some old_b
    → Before (slice_index_or k.part_lists attr []) a b → Before (slice_index_or k.lists attr []) old_a old_b
before_whole k attr a b old_a old_b is inside at_a at_b before =
    let listed = list_below (slice_index_or k.part_lists attr []) before.ent before.low a before.first in
    let below : before.ent < length k.entities = omega (arith, listed, is.listed attr inside, is.is_part.per_entity) in
    let old = there k.entities before.ent below in
    record {
      ent = old.0.0;
      low = before.low;
      high = before.high;
      below = before.below;
      first = place_whole k attr before.ent old.0 before.low a old_a is inside old.1 before.first at_a;
      second = place_whole k attr before.ent old.0 before.high b old_b is inside old.1 before.second at_b;
    }

-- the lists of an attribute: one per entity, each of its entity's rows alone
pub record AreListed (r : Relation) (lists : List (List RowId)) : Type 0 where
  pub per_entity : length lists ≡ length r.entities
  pub only : (ent : ℕ) → ent < length r.entities → (row : RowId) → Contains (slice_index_or lists ent []) row
      → entity_of r.rows row.0 ≡ Some ent

-- two rows that stand so are of the entity whose list has them
pub record IsBeforeOf (r : Relation) (lists : List (List RowId)) (earlier later : RowId)
    (before : Before lists earlier later) : Type 0 where
  pub below : before.ent < length r.entities
  pub earlier_of : entity_of r.rows earlier.0 ≡ Some before.ent
  pub later_of : entity_of r.rows later.0 ≡ Some before.ent

pub before_of : (r : Relation) (lists : List (List RowId)) (earlier later : RowId) → AreListed r lists
    → (before : Before lists earlier later)
    → IsBeforeOf r lists earlier later before
before_of r lists earlier later are before =
    let listed = list_below lists before.ent before.low earlier before.first in
    let below : before.ent < length r.entities = omega (arith, listed, are.per_entity) in
    record {
      below = below;
      earlier_of = are.only before.ent below earlier (at_place (slice_index_or lists before.ent []) before.low
          earlier before.first);
      later_of = are.only before.ent below later (at_place (slice_index_or lists before.ent []) before.high later before.second);
    }

pub before_part : (k : Cut) (attr : ℕ) (a b old_a old_b : RowId) → IsCut k → attr < length k.whole.attrs
    → AreListed k.whole (slice_index_or k.lists attr []) → slice_get k.rows a.0 ≡ Some old_a → slice_get k.rows b.0 ≡ Some old_b
    → Before (slice_index_or k.lists attr []) old_a old_b → Before (slice_index_or k.part_lists attr []) a b
before_part k attr a b old_a old_b is inside are at_a at_b before =
    let of = before_of k.whole (slice_index_or k.lists attr []) old_a old_b are before in
    let scoped = scope_of k a old_a before.ent is at_a of.earlier_of in
    let found = entity_there k before.ent is of.below scoped in
    let at = λ (place : ℕ) (old : RowId) (e : slice_get (slice_index_or (slice_index_or k.lists attr []) before.ent
    []) place ≡ Some old).
    ap (λ n. slice_get (list_at k.lists attr n) place) found.3 ∙ e in
    let x = place_part k attr found.0 found.1 before.low old_a is inside found.2 (at before.low old_a before.first) in
    let y = place_part k attr found.0 found.1 before.high old_b is inside found.2 (at before.high old_b before.second) in
    record {
      ent = found.0;
      low = before.low;
      high = before.high;
      below = before.below;
      first = x.1 ∙ ap Some (one_part k x.0 a old_a is x.2 at_a);
      second = y.1 ∙ ap Some (one_part k y.0 b old_b is y.2 at_b);
    }
