-- The last row of a ranking, and the value that is read there.
use Rattle.std.proofs.Common.{◌≡◌, ◌-◌, ◌<◌, ℕ, zero, suc, List, [], ◌∷◌, Some, All, Contains, length, map, get_or, slice_get, sym, ap, subst, ◌∙◌, refl, arith}
use Rattle.std.proofs.lemmas.Option.{same_Some, none-some, slice_get_within, slice_get_read, get_or_from_slice_get}
use Rattle.std.proofs.lemmas.List.{length-map}
use Rattle.std.proofs.lemmas.List.Elements.{Contains-get_or, All-get_or}
use Rattle.currency_base.specs.Rows.{HasRowOf}
use Rattle.currency_base.specs.Values.{kind_of}
use Rattle.currency_base.specs.declared.ids.RowId.{RowId}
use Rattle.currency_base.specs.declared.row.Row.{Row}
use Rattle.currency_base.specs.declared.value.Value.{Value}
use Rattle.denial_rules.specs.Instances.{field_value}
use Rattle.spec_model.specs.Pairs.{entity_of}
use Rattle.spec_model.specs.Completion.{Rankings, ranking_of, IsRanking, IsCompletion}
use Rattle.spec_model.specs.Current.{current_value, last_row}
use Rattle.spec_model.specs.Facts.{IsRelation, AreRelations, kinds_of}
use Rattle.spec_model.specs.declared.relation.Relation.{Relation}
use Rattle.current_tuples.specs.Places.{IsPlaceOf, IsReadable}

-- what is read at a place is the item there
pub same_read : {A : Type 0} (xs : List A) (i : ℕ) (x y : A) → x ≡ get_or xs i x → slice_get xs i ≡ Some y → x ≡ y
same_read xs i x y read at =
    same_Some x y (sym (slice_get_read xs (length xs) i x refl (slice_get_within xs i y at) read) ∙ at)

-- a row stands for its entity
entity_of_row : (rows : List Row) (at : ℕ) (row : Row) → slice_get rows at ≡ Some row → entity_of rows at ≡ Some row.entity.0
entity_of_row [] at row is = absurd (none-some row is)
entity_of_row (r ∷ rows) zero row is = ap (λ (q : Row). Some q.entity.0) (same_Some r row is)
entity_of_row (r ∷ rows) (suc at) row is = entity_of_row rows at row is

-- a row that stands for an entity is one of the rows
pub row_within : (rows : List Row) (row ent : ℕ) → entity_of rows row ≡ Some ent → row < length rows
row_within [] row ent e = absurd (none-some ent e)
row_within (r ∷ rows) zero ent e = omega arith
row_within (r ∷ rows) (suc row) ent e = omega (arith, row_within rows row ent e)

-- the ranking of an entity that has a row has a row
ranked_some : (rows : List Row) (ent : ℕ) (list : List RowId) → IsRanking rows ent list → HasRowOf rows ent → 0 < length list
ranked_some rows ent list ranking has =
    let found = ranking.all (record { 0 = has.at }) (entity_of_row rows has.at has.row has.is_row ∙ ap Some has.is_of) in
    omega (arith, found.1)

-- each row has a value of each attribute
valued_rows : (r : Relation) (attr : ℕ) → IsRelation r → attr < length r.attrs → All (λ row. attr < length row.values) r.rows
valued_rows r attr is below k d within =
    let row = get_or r.rows k d in
    let kinds : map kind_of row.values ≡ kinds_of r = is.values k d within in
    let values = sym (length-map row.values kind_of) ∙ ap length kinds ∙ length-map r.attrs (λ a. a.kind) in
    omega (arith, values)

-- the list at a place of a completion is read at its last row
pub is_readable : (relations : List Relation) (c : Rankings) (rel attr ent : ℕ) (r : Relation) (list : List RowId)
    → AreRelations relations → IsCompletion relations c → IsPlaceOf relations rel attr ent
    → r ≡ get_or relations rel r → list ≡ ranking_of c rel attr ent → IsReadable r.rows list attr
is_readable relations c rel attr ent r list are completion place read is_list =
    let same : r ≡ place.relation = same_read relations rel r place.relation read place.is_relation in
    let at : slice_get relations rel ≡ Some r = place.is_relation ∙ ap Some (sym same) in
    let in_attrs : attr < length r.attrs = rw same place.attr_within in
    let in_entities : ent < length r.entities = rw same place.ent_within in
    let within = slice_get_within relations rel r at in
    let is : IsRelation r = rw (← read) at (All-get_or IsRelation relations rel r within are.each) in
    let ranking : IsRanking r.rows ent list = rw is_list (completion.ranked rel r at attr ent in_attrs in_entities) in
    record {
      some = ranked_some r.rows ent list ranking (is.inhabited ent in_entities);
      listed = λ k d below.
          let row = get_or list k d in
          row_within r.rows row.0 ent (ranking.only row (Contains-get_or list k d below));
      valued = valued_rows r attr is in_attrs;
    }

-- what is read there is the current value
pub current_read : (relations : List Relation) (c : Rankings) (rel attr ent : ℕ)
    → (r : Relation) (list : List RowId) (value : Value) → r ≡ get_or relations rel r → list ≡ ranking_of c rel attr ent
    → field_value r.rows (last_row list) attr ≡ Some value
    → (q : Relation) → slice_get relations rel ≡ Some q → current_value c rel q.rows attr ent ≡ Some value
current_read relations c rel attr ent r list value read is_list is_value q at =
    ap (λ (p : Relation). current_value c rel p.rows attr ent) (sym (same_read relations rel r q read at))
    ∙ ap (λ (rows : List RowId). field_value r.rows (last_row rows) attr) (sym is_list) ∙ is_value

-- ---- the row that stands last

own_ranking : (relations : List Relation) (c : Rankings) (rel attr ent : ℕ) → IsCompletion relations c
    → (place : IsPlaceOf relations rel attr ent) → IsRanking place.relation.rows ent (ranking_of c rel attr ent)
own_ranking relations c rel attr ent completion place =
    completion.ranked rel place.relation place.is_relation attr ent place.attr_within place.ent_within

-- the list at a place of a completion has a row
pub some_ranked : (relations : List Relation) (c : Rankings) (rel attr ent : ℕ) → AreRelations relations
    → IsCompletion relations c
    → IsPlaceOf relations rel attr ent → 0 < length (ranking_of c rel attr ent)
some_ranked relations c rel attr ent are completion place =
    let r = place.relation in
    let within = slice_get_within relations rel r place.is_relation in
    let is : IsRelation r =
    subst IsRelation (get_or_from_slice_get relations rel r r place.is_relation)
    (All-get_or IsRelation relations rel r within are.each) in
    ranked_some r.rows ent (ranking_of c rel attr ent) (own_ranking relations c rel attr ent completion place)
    (is.inhabited ent place.ent_within)

-- what stands last in it is a row of the entity
pub last_of_entity : (relations : List Relation) (c : Rankings) (rel attr ent : ℕ) → IsCompletion relations c
    → IsPlaceOf relations rel attr ent → (row : RowId) → last_row (ranking_of c rel attr ent) ≡ Some row
    → (r : Relation) → slice_get relations rel ≡ Some r → entity_of r.rows row.0 ≡ Some ent
last_of_entity relations c rel attr ent completion place row last r at =
    let list = ranking_of c rel attr ent in
    let ranking = own_ranking relations c rel attr ent completion place in
    let same : place.relation ≡ r = same_Some place.relation r (sym place.is_relation ∙ at) in
    let there : Contains list row = (
      length list - 1,
      slice_get_within list (length list - 1) row last,
      get_or_from_slice_get list (length list - 1)
          row row last,
    ) in
    subst (λ (q : Relation). entity_of q.rows row.0 ≡ Some ent) same (ranking.only row there)
