-- Rows that are alike, among the rows of their entity.
use Rattle.std.proofs.Common.{◌≡◌, ◌≢◌, ◌⊎◌, ◌==◌, ◌&&◌, ◌+◌, ◌<◌, ℕ, true, false, List, [], ◌∷◌, ◌++◌, Some, map, length, take, get_or, slice_get, sym, ap, refl, ◌∙◌, inl, inr, arith}
use Rattle.std.proofs.lemmas.Bool.Decides.{eqb_tells}
use Rattle.std.proofs.lemmas.List.{take_more, length-map, map-append}
use Rattle.std.proofs.lemmas.List.FromFn.{map-range_with_len_more}
use Rattle.std.proofs.lemmas.Option.{slice_get_within, slice_get-get_or, get_or_from_slice_get}
use Rattle.std.specs.List.{filter}
use Rattle.currency_base.specs.declared.ids.RowId.{RowId}
use Rattle.currency_base.specs.declared.row.Row.{Row}
use Rattle.currency_base.specs.declared.value.Cmp.TheVariants.{Eq}
use Rattle.denial_rules.specs.Instances.{field_value, is_compared}
use Rattle.entity_lists.specs.Lists.{entities_of, rows_of}
use Rattle.partial_orders.specs.Pairs.{entity_of}
use Rattle.value_names.specs.Names.{row_ids, are_alike, first_or, name_of}
use Rattle.value_names.proofs.EntityRows.{entity_is, member_is, kept_of_entity}

-- rows of different entities are not alike
not_alike : (rows : List Row) (attr : ℕ) (a b : RowId) (ent e : ℕ) → entity_of rows a.0 ≡ Some ent
    → entity_of rows b.0 ≡ Some e → e ≢ ent
    → are_alike rows attr a b ≡ false
not_alike rows attr a b ent e of_a of_b differs = rw (of_a, of_b) (go (eqb_tells ent e))
  where
    go : (((ent == e) ≡ true) × (ent ≡ e)) ⊎ (((ent == e) ≡ false) × (ent ≢ e))
        → ((ent == e) && is_compared (field_value rows (Some a) attr) Eq (field_value rows (Some b) attr)) ≡ false
    go (inl h) = absurd (differs (sym h.1))
    go (inr h) = rw h.0 refl

module _ (rows : List Row) (attr : ℕ) (row : RowId) (es : List ℕ) (ent : ℕ) (same : es ≡ entities_of rows)
    (of : slice_get es row.0 ≡ Some ent) where
  of_entity : entity_of rows row.0 ≡ Some ent
  of_entity = entity_is rows row.0 ∙ ap (λ es. slice_get es row.0) (sym same) ∙ of

  -- the first alike row is found among the rows of the entity
  pub name_among : (members : List RowId) → members ≡ rows_of es ent → first_or row
      (filter (are_alike rows attr row) members) ≡ name_of rows attr row
  name_among members are =
      let p = are_alike rows attr row in
      let kept = kept_of_entity p 0 es ent (λ i e other at number differs.
      not_alike rows attr row other ent e of_entity
      (entity_is rows other.0 ∙ ap (λ es. slice_get es other.0) (sym same) ∙ ap (slice_get es)
      (omega (arith, number)) ∙ at) differs) in
      let count : length es ≡ length rows = ap length same ∙ length-map rows (λ row. row.entity.0) in
      ap (λ rs. first_or row (filter p rs)) are ∙ ap (first_or row) kept ∙ ap (λ n. first_or row (filter p (row_ids n))) count

  -- and each of those is a row of the entity
  pub member_at : (members : List RowId) (i : ℕ) (d : RowId) → members ≡ rows_of es ent → i < length members
      → entity_of rows row.0 ≡ entity_of rows (get_or members i d).0
  member_at members i d are within =
      let at = slice_get-get_or members i d within in
      of_entity ∙ sym (member_is rows es ent i (get_or members i d) same (ap (λ rs. slice_get rs i) (sym are) ∙ at))

  pub member_within : (members : List RowId) (i : ℕ) (d : RowId) → members ≡ rows_of es ent → i < length members →
      (get_or members i d).0 < length rows
  member_within members i d are within =
      let other = get_or members i d in
      let of' : slice_get (entities_of rows) other.0 ≡ Some ent =
      sym (entity_is rows other.0) ∙ (sym (member_at members i d are within) ∙ of_entity) in
      omega (arith, slice_get_within (entities_of rows) other.0 ent of', length-map rows (λ row. row.entity.0))

-- ---- one item more

pub mapped_more : {A B : Type 0} (f : A → B) (xs : List A) (i : ℕ) (x : A) (ys : List B) (y : B) (zs : List B)
    → slice_get xs i ≡ Some x
    → ys ≡ map f (take i xs) → y ≡ f x → zs ≡ ys ++ y ∷ [] → zs ≡ map f (take (i + 1) xs)
mapped_more f xs i x ys y zs at so_far is pushed =
    let one : take (i + 1) xs ≡ take i xs ++ x ∷ [] =
    take_more xs i x (slice_get_within xs i x at) ∙ ap (λ z. take i xs ++ z ∷ []) (get_or_from_slice_get xs i x x at) in
    pushed ∙ ap (λ y. ys ++ y ∷ []) is ∙ ap (λ ys. ys ++ f x ∷ []) so_far ∙ sym (map-append f (take i xs) (x ∷ []))
    ∙ sym (ap (map f) one)

pub row_ids_more : (n : ℕ) → row_ids (n + 1) ≡ row_ids n ++ record { 0 = n } ∷ []
row_ids_more n = map-range_with_len_more (λ at. let r : RowId = record { 0 = at } in r) 0 n n (omega arith)

pub names_more : {B : Type 0} (f : RowId → B) (n : ℕ) → map f (row_ids (n + 1)) ≡ map f (row_ids n) ++ f (record { 0 = n }) ∷ []
names_more f n = ap (map f) (row_ids_more n) ∙ map-append f (row_ids n) (record { 0 = n } ∷ [])
