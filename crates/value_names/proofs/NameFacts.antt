-- What the row that names a value is.
use Rattle.std.proofs.Common.{◌≡◌, ◌≢◌, ◌⊎◌, ◌==◌, ◌&&◌, ◌+◌, ◌<◌, ◌≤◌, ℕ, Bool, zero, suc, true, false, cond, List, [], ◌∷◌, Option, Some, None, map, length, get_or, slice_get, option_map, sym, ap, refl, ◌∙◌, inl, inr, arith}
use Rattle.std.proofs.lemmas.Bool.{and_parts, false≢true, cases_lt}
use Rattle.std.proofs.lemmas.Bool.Decides.{eqb_tells}
use Rattle.std.proofs.lemmas.List.{length-map}
use Rattle.std.proofs.lemmas.List.FromFn.{length-map-range_with_len, get_or-map-range_with_len}
use Rattle.std.proofs.lemmas.Option.{same_Some, none-some, slice_get-get_or, slice_get-map, slice_get_cases, get_or_from_slice_get}
use Rattle.std.specs.List.{filter, range_with_len}
use Rattle.currency_base.specs.declared.ids.RowId.{RowId}
use Rattle.currency_base.specs.declared.row.Row.{Row}
use Rattle.currency_base.specs.declared.value.Cmp.TheVariants.{Eq}
use Rattle.currency_base.specs.declared.value.Value.{Value}
use Rattle.currency_base.specs.Values.{kind_of}
use Rattle.denial_rules.specs.Instances.{field_value, is_compared}
use Rattle.partial_orders.specs.Pairs.{entity_of}
use Rattle.spec_model.specs.Facts.{kinds_of, IsRelation}
use Rattle.spec_model.specs.declared.relation.Relation.{Relation}
use Rattle.value_names.specs.Names.{row_ids, is_one_entity, are_alike, first_or, name_of, names_of, firsts_from, firsts_of}
use Rattle.value_names.proofs.SameValues.{equal_is, is_equal, entity_is_one}

-- what two rows that are alike share
pub record HaveOne (rows : List Row) (attr : ℕ) (a b : RowId) : Type 0 where
  pub ent : ℕ
  pub entity : entity_of rows a.0 ≡ Some ent
  pub other_entity : entity_of rows b.0 ≡ Some ent
  pub value : Value
  pub here : field_value rows (Some a) attr ≡ Some value
  pub there : field_value rows (Some b) attr ≡ Some value

-- rows that are alike are of one entity and have one value
pub alike_have_one : (rows : List Row) (attr : ℕ) (a b : RowId) → are_alike rows attr a b ≡ true → HaveOne rows attr a b
alike_have_one rows attr a b e =
    let parts = and_parts (is_one_entity (entity_of rows a.0) (entity_of rows b.0))
    (is_compared (field_value rows (Some a) attr) Eq (field_value rows (Some b) attr)) e in
    let one = entity_is_one (entity_of rows a.0) (entity_of rows b.0) parts.0 in
    let same = equal_is (field_value rows (Some a) attr) (field_value rows (Some b) attr) parts.1 in
    record { ent = one.0; entity = one.1; other_entity = one.2; value = same.0; here = same.1; there = same.2 }

-- and rows that share these are alike
pub have_one_alike : (rows : List Row) (attr : ℕ) (a b : RowId) → HaveOne rows attr a b → are_alike rows attr a b ≡ true
have_one_alike rows attr a b h = rw (h.entity, h.other_entity, h.here, h.there) (go (eqb_tells h.ent h.ent))
  where
    go : (((h.ent == h.ent) ≡ true) × (h.ent ≡ h.ent)) ⊎ (((h.ent == h.ent) ≡ false) × (h.ent ≢ h.ent))
        → ((h.ent == h.ent) && is_compared (Some h.value) Eq (Some h.value)) ≡ true
    go (inl e) = rw e.0 (is_equal h.value)
    go (inr e) = absurd (e.1 refl)

-- ---- the first row that passes a test

record IsFirst (p : RowId → Bool) (row found : RowId) : Type 0 where
  passes : p found ≡ true
  least : found.0 ≤ row.0

first_found : (p : RowId → Bool) (first n : ℕ) (d row : RowId) → first ≤ row.0 → row.0 < first + n → p row ≡ true
    → IsFirst p row (first_or d (filter p (map (λ at. record { 0 = at }) (range_with_len first n))))
first_found p first zero d row from below passes = absurd (omega arith)
first_found p first (suc n) d row from below passes =
    go (p here) refl (λ later. first_found p (first + 1) n d row later (omega arith) passes)
  where
    here : RowId
    here = record { 0 = first }

    rest : List RowId
    rest = filter p (map (λ at. record { 0 = at }) (range_with_len (first + 1) n))

    go : (b : Bool) → p here ≡ b → (first + 1 ≤ row.0 → IsFirst p row (first_or d rest)) → IsFirst p row
        (first_or d (cond b (here ∷ rest) rest))
    go true is more = record { passes = is; least = from }
    go false is more = more (later (cases_lt first row.0))
      where
        later : (first < row.0) ⊎ (row.0 ≤ first) → first + 1 ≤ row.0
        later (inl h) = omega arith
        later (inr h) =
            let same : row.0 ≡ first = omega arith in
            let itself = ap (λ (n : ℕ). p (record { 0 = n })) same in
            absurd (false≢true (sym is ∙ (sym itself ∙ passes)))

-- a first row is the same whatever stands for none
any_other : (p : RowId → Bool) (row : RowId) (found : List RowId) → ((d : RowId) → IsFirst p row (first_or d found))
    → (d d' : RowId)
    → first_or d found ≡ first_or d' found
any_other p row [] each d d' = absurd (omega (arith, (each (record { 0 = row.0 + 1 })).least))
any_other p row (x ∷ found) each d d' = refl

-- ---- a relation's rows have their values

row_is : (rows : List Row) (row : RowId) → row.0 < length rows → (x : Row) × (slice_get rows row.0 ≡ Some x)
row_is rows row here = go (slice_get_cases rows row.0).1
  where
    go : ((x : Row) × (row.0 < length rows) × (slice_get rows row.0 ≡ Some x) × (get_or rows row.0 x ≡ x))
        ⊎ ((length rows ≤ row.0) × (slice_get rows row.0 ≡ None)) → (x : Row) × (slice_get rows row.0 ≡ Some x)
    go (inl h) = (h.0, h.2)
    go (inr h) = absurd (omega (arith, h.0))

value_is : (values : List Value) (attr : ℕ) → attr < length values → (value : Value) × (slice_get values attr ≡ Some value)
value_is values attr within = go (slice_get_cases values attr).1
  where
    go : ((x : Value) × (attr < length values) × (slice_get values attr ≡ Some x) × (get_or values attr x ≡ x))
        ⊎ ((length values ≤ attr) × (slice_get values attr ≡ None)) → (x : Value) × (slice_get values attr ≡ Some x)
    go (inl h) = (h.0, h.2)
    go (inr h) = absurd (omega (arith, h.0))

-- a row is alike to itself
pub alike_to_itself : (r : Relation) (attr : ℕ) (row : RowId) → IsRelation r → attr < length r.attrs → row.0 < length r.rows
    → are_alike r.rows attr row row ≡ true
alike_to_itself r attr row is within here =
    let x = row_is r.rows row here in
    let kinds : map kind_of (get_or r.rows row.0 x.0).values ≡ kinds_of r = is.values row.0 x.0 here in
    let read : get_or r.rows row.0 x.0 ≡ x.0 = get_or_from_slice_get r.rows row.0 x.0 x.0 x.1 in
    let mine : map kind_of x.0.values ≡ kinds_of r = ap (λ (x : Row). map kind_of x.values) (sym read) ∙ kinds in
    let many : length x.0.values ≡ length r.attrs =
    sym (length-map x.0.values kind_of) ∙ ap length mine ∙ length-map r.attrs (λ a. a.kind) in
    let value = value_is x.0.values attr (omega arith) in
    let field : field_value r.rows (Some row) attr ≡ Some value.0 = rw x.1 value.1 in
    let entity : entity_of r.rows row.0 ≡ Some x.0.entity.0 = rw x.1 refl in
    have_one_alike r.rows attr row row
    (record { ent = x.0.entity.0; entity = entity; other_entity = entity; value = value.0; here = field; there = field })

-- ---- names

-- the name of a row's value is a row of its entity with its value, no later than the row, and its own name
pub record IsName (rows : List Row) (attr : ℕ) (row name : RowId) : Type 0 where
  pub alike : are_alike rows attr row name ≡ true
  pub have_one : HaveOne rows attr row name
  pub least : name.0 ≤ row.0
  pub itself : name_of rows attr name ≡ name

module _ (r : Relation) (attr : ℕ) (is : IsRelation r) (within : attr < length r.attrs) where
  name_first : (row : RowId) → row.0 < length r.rows → (d : RowId)
      → IsFirst (are_alike r.rows attr row) row (first_or d (filter (are_alike r.rows attr row) (row_ids (length r.rows))))
  name_first row here d =
      first_found (are_alike r.rows attr row) 0 (length r.rows) d row (omega arith) (omega arith)
      (alike_to_itself r attr row is within here)

  -- rows that are alike have one name
  pub same_name : (a b : RowId) → a.0 < length r.rows → are_alike r.rows attr a b ≡ true → name_of r.rows attr a ≡
      name_of r.rows attr b
  same_name a b here alike =
      let h = alike_have_one r.rows attr a b alike in
      let kept : Option ℕ → Option Value → List RowId = λ ent value.
      filter (λ x. is_one_entity ent (entity_of r.rows x.0) && is_compared value Eq
      (field_value r.rows (Some x) attr)) (row_ids (length r.rows)) in
      let entities : entity_of r.rows a.0 ≡ entity_of r.rows b.0 = h.entity ∙ sym h.other_entity in
      let values : field_value r.rows (Some a) attr ≡ field_value r.rows (Some b) attr = h.here ∙ sym h.there in
      let tests : kept (entity_of r.rows a.0) (field_value r.rows (Some a) attr) ≡ kept (entity_of r.rows b.0)
      (field_value r.rows (Some b) attr) =
      ap (λ ent. kept ent (field_value r.rows (Some a) attr)) entities ∙ ap (kept (entity_of r.rows b.0)) values in
      any_other (are_alike r.rows attr a) a (filter (are_alike r.rows attr a) (row_ids (length r.rows))) (name_first a here) a b
      ∙ ap (first_or b) tests

  -- what the name of a row's value is
  pub named : (row : RowId) → row.0 < length r.rows → IsName r.rows attr row (name_of r.rows attr row)
  named row here =
      let first = name_first row here row in
      record {
        alike = first.passes;
        have_one = alike_have_one r.rows attr row (name_of r.rows attr row) first.passes;
        least = first.least;
        itself = sym (same_name row (name_of r.rows attr row) here first.passes);
      }

  -- and rows with one name are alike
  pub one_name : (a b : RowId) → a.0 < length r.rows → b.0 < length r.rows → name_of r.rows attr a ≡ name_of r.rows attr b
      → are_alike r.rows attr a b ≡ true
  one_name a b here there same =
      let n = (named a here).have_one in
      let m = (named b there).have_one in
      let ent : Some m.ent ≡ Some n.ent = sym m.other_entity ∙
      (ap (λ (row : RowId). entity_of r.rows row.0) (sym same) ∙ n.other_entity) in
      let value : Some m.value ≡ Some n.value = sym m.there ∙
      (ap (λ row. field_value r.rows (Some row) attr) (sym same) ∙ n.there) in
      have_one_alike r.rows attr a b (record {
        ent = n.ent;
        entity = n.entity;
        other_entity = m.entity ∙ ent;
        value = n.value;
        here = n.here;
        there = m.here ∙ value;
      })

-- the name of each row's value, in the list of names
pub name_at : (rows : List Row) (attr : ℕ) (row : RowId) → row.0 < length rows → slice_get (names_of rows attr)
    row.0 ≡ Some (name_of rows attr row)
name_at rows attr row here =
    let id : ℕ → RowId = λ at. record { 0 = at } in
    let count : length (row_ids (length rows)) ≡ length rows = length-map-range_with_len id 0 (length rows) in
    let at : slice_get (row_ids (length rows)) row.0 ≡ Some (get_or (row_ids (length rows)) row.0 row) =
    slice_get-get_or (row_ids (length rows)) row.0 row (omega arith) in
    let read : get_or (row_ids (length rows)) row.0 row ≡ row = get_or-map-range_with_len id 0 (length rows) row.0
    row.0 row here (omega arith) in
    slice_get-map (name_of rows attr) (row_ids (length rows)) row.0 ∙ ap (option_map (name_of rows attr)) (at ∙ ap Some read)

-- ---- the rows that are their own names

abbrev Tells : ℕ → ℕ → Type 0
Tells a b = (((a == b) ≡ true) × (a ≡ b)) ⊎ (((a == b) ≡ false) × (a ≢ b))

first_from : (first : ℕ) (names : List RowId) (i : ℕ) (row : RowId) → slice_get (firsts_from first names) i ≡ Some row
    → (place : ℕ) × (row.0 ≡ first + place) × (slice_get names place ≡ Some row)
first_from first [] i row at = absurd (none-some row at)
first_from first (name ∷ names) i row at = go (λ j at'. first_from (first + 1) names j row at') i (eqb_tells name.0 first) at
  where
    go : ((j : ℕ) → slice_get (firsts_from (first + 1) names) j ≡ Some row
        → (place : ℕ) × (row.0 ≡ first + 1 + place) × (slice_get names place ≡ Some row))
        → (i : ℕ) → Tells name.0 first
        → slice_get (cond (name.0 == first) (name ∷ firsts_from (first + 1) names) (firsts_from (first + 1) names)) i ≡ Some row
        → (place : ℕ) × (row.0 ≡ first + place) × (slice_get (name ∷ names) place ≡ Some row)
    go more zero (inl h) at =
        let here : Some name ≡ Some row = rw h.0 at at in
        let number : row.0 ≡ first = ap (λ (r : RowId). r.0) (sym (same_Some name row here)) ∙ h.1 in
        (0, omega arith, here)
    go more (suc j) (inl h) at =
        let m = more j (rw h.0 at at) in
        (suc m.0, omega (arith, m.1), m.2)
    go more i (inr h) at =
        let m = more i (rw h.0 at at) in
        (suc m.0, omega (arith, m.1), m.2)

-- each of them is its own name
pub first_is : (names : List RowId) (i : ℕ) (row : RowId) → slice_get (firsts_of names) i ≡ Some row
    → slice_get names row.0 ≡ Some row
first_is names i row at =
    let m = first_from 0 names i row at in
    let number : row.0 ≡ m.0 = omega (arith, m.1) in
    ap (slice_get names) number ∙ m.2

in_firsts : (first : ℕ) (names : List RowId) (place : ℕ) (row : RowId) → slice_get names place ≡ Some row → row.0 ≡ first + place
    → (i : ℕ) × (slice_get (firsts_from first names) i ≡ Some row)
in_firsts first [] place row at number = absurd (none-some row at)
in_firsts first (name ∷ names) zero row at number = here (eqb_tells name.0 first) (same_Some name row at)
  where
    here : Tells name.0 first → name ≡ row
        → (i : ℕ) × (slice_get (cond (name.0 == first) (name ∷ firsts_from (first + 1) names)
        (firsts_from (first + 1) names)) i ≡ Some row)
    here (inl h) same = (0, rw h.0 (ap Some same))
    here (inr h) same = absurd (h.1 (ap (λ (r : RowId). r.0) same ∙ (number ∙ omega arith)))
in_firsts first (name ∷ names) (suc place) row at number =
    let found = in_firsts (first + 1) names place row at (omega (arith, number)) in
    there (eqb_tells name.0 first) found.0 found.1
  where
    there : Tells name.0 first → (j : ℕ) → slice_get (firsts_from (first + 1) names) j ≡ Some row
        → (i : ℕ) × (slice_get (cond (name.0 == first) (name ∷ firsts_from (first + 1) names)
        (firsts_from (first + 1) names)) i ≡ Some row)
    there (inl h) j at = (suc j, rw h.0 at)
    there (inr h) j at = (j, rw h.0 at)

-- and each row that is its own name is one of them
pub is_first : (names : List RowId) (row : RowId) → slice_get names row.0 ≡ Some row →
    (i : ℕ) × (slice_get (firsts_of names) i ≡ Some row)
is_first names row at = in_firsts 0 names row.0 row at (omega arith)

firsts_rise : (first : ℕ) (names : List RowId) (i j : ℕ) (a b : RowId) → slice_get (firsts_from first names) i ≡ Some a
    → slice_get (firsts_from first names) j ≡ Some b → i < j → a.0 < b.0
firsts_rise first [] i j a b at_i at_j below = absurd (none-some a at_i)
firsts_rise first (name ∷ names) i j a b at_i at_j below =
    go (λ k l at_k at_l less. firsts_rise (first + 1) names k l a b at_k at_l less) i j (eqb_tells name.0 first) at_i at_j below
  where
    go : ((k l : ℕ) → slice_get (firsts_from (first + 1) names) k ≡ Some a
        → slice_get (firsts_from (first + 1) names) l ≡ Some b → k < l → a.0 < b.0)
        → (i j : ℕ) → Tells name.0 first
        → slice_get (cond (name.0 == first) (name ∷ firsts_from (first + 1) names) (firsts_from (first + 1) names)) i ≡ Some a
        → slice_get (cond (name.0 == first) (name ∷ firsts_from (first + 1) names) (firsts_from (first + 1) names)) j ≡ Some b
        → i < j → a.0 < b.0
    go more i zero tells at_i at_j below = absurd (omega arith)
    go more zero (suc j) (inl h) at_i at_j below =
        let here : Some name ≡ Some a = rw h.0 at at_i in
        let there : slice_get (firsts_from (first + 1) names) j ≡ Some b = rw h.0 at at_j in
        let m = first_from (first + 1) names j b there in
        omega (arith, m.1, ap (λ (r : RowId). r.0) (same_Some name a here), h.1)
    go more (suc i) (suc j) (inl h) at_i at_j below = more i j (rw h.0 at at_i) (rw h.0 at at_j) (omega arith)
    go more i (suc j) (inr h) at_i at_j below = more i (suc j) (rw h.0 at at_i) (rw h.0 at at_j) below

-- they ascend
pub firsts_ascend : (names : List RowId) (i j : ℕ) (a b : RowId) → slice_get (firsts_of names) i ≡ Some a
    → slice_get (firsts_of names) j ≡ Some b
    → i < j → a.0 < b.0
firsts_ascend names i j a b at_i at_j below = firsts_rise 0 names i j a b at_i at_j below
