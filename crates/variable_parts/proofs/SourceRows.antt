-- The rows of a relation, their entities and parts, as they are numbered.
use Rattle.std.proofs.Common.{◌≡◌, ◌∙◌, ◌+◌, ◌<◌, ◌^◌, ℕ, Bool, true, false, List, [], ◌∷◌, ◌++◌, Option, None, Some, is_some, if◌then◌else◌, length, take, drop, slice_get, slice_index, slice_index_or, refl, sym, ap, subst, inl, inr, arith, length-append, length-drop}
use Rattle.std.proofs.lemmas.Bool.Decides.{eqb_tells}
use Rattle.std.proofs.lemmas.List.{drop_more}
use Rattle.std.proofs.lemmas.Option.{slice_get_within, get_or_from_slice_get}
use Rattle.std.specs.Option.{unwrap_or}
use Rattle.currency_base.specs.declared.ids.AttrId.{AttrId}
use Rattle.currency_base.specs.declared.ids.RelId.{RelId}
use Rattle.currency_base.specs.declared.ids.RowId.{RowId}
use Rattle.currency_base.specs.declared.row.Row.{Row}
use Rattle.entity_lists.specs.Lists.{Grouping, entities_of, rows_of}
use Rattle.entity_lists.proofs.Counts.{rows_few}
use Rattle.entity_lists.proofs.Facts.{length-entities_of, rows_once}
use Rattle.spec_model.specs.Facts.{AreRelations, IsRelation}
use Rattle.spec_model.specs.declared.relation.Relation.{Relation}
use Rattle.value_names.specs.Names.{name_of}
use Rattle.order_literals.specs.Numbers.{IsRowOf, Numbered, Numbers, is_wanted, numbered, value_names_of}
use Rattle.order_literals.proofs.Callers.{name_is, row_of, table_at}
use Rattle.order_clauses.proofs.Members.{entity_is}
use Rattle.order_clauses.proofs.Reading.{all_at, item_at}
use Rattle.entity_ties.specs.Labels.{cell, label_of, labels_in}
use Rattle.variable_parts.specs.Parts.{label_at}
use Rattle.variable_parts.specs.Sorted.{places_from, places_of}
use Rattle.variable_parts.specs.Told.{Divided, IsDivided, IsWantedRow, laters, row_key, rows_at, rows_in}
use Rattle.variable_parts.proofs.Cells.{cell_at}
use Rattle.variable_parts.proofs.KeyPlaces.{Tells, as_many, row_at, split_at}

-- ---- the rows of an entity after one of them

get_at : {A : Type 0} (xs : List A) (x : A) (ys : List A) → slice_get (xs ++ x ∷ ys) (length xs) ≡ Some x
get_at [] x ys = refl
get_at (z ∷ xs) x ys = get_at xs x ys

counted : (es : List ℕ) (ent place : ℕ) (row : RowId) → slice_get es row.0 ≡ Some ent
    → slice_get (rows_of es ent) place ≡ Some row
    → length (rows_of es ent) ≡ place + (1 + laters es row.0)
counted es ent place row of at =
    omega (
      arith,
      as_many 0 es ent,
      ap (λ (ps : List ℕ). length ps) whole,
      length-append front (row.0 ∷ later),
      rows_once es ent place (length front) row at
          (row_at es ent (length front) row.0 (ap (λ ps. slice_get ps (length front)) whole ∙ get_at front row.0 later)),
      ap (λ e. length (places_from (row.0 + 1) (drop (row.0 + 1) es) e)) is_ent,
    )
  where
    within : row.0 < length es
    within = slice_get_within es row.0 ent of

    is_ent : slice_index es row.0 ≡ ent
    is_ent = get_or_from_slice_get es row.0 ent 0 of

    front : List ℕ
    front = places_of (take row.0 es) ent

    later : List ℕ
    later = places_from (row.0 + 1) (drop (row.0 + 1) es) ent

    mine : Tells ent ent → places_from row.0 (ent ∷ drop (row.0 + 1) es) ent ≡ row.0 ∷ later
    mine (inl h) = rw h.0 refl
    mine (inr h) = absurd (h.1 refl)

    rest : drop row.0 es ≡ ent ∷ drop (row.0 + 1) es
    rest = drop_more es row.0 0 within ∙ ap (λ e. e ∷ drop (row.0 + 1) es) is_ent

    whole : places_of es ent ≡ front ++ row.0 ∷ later
    whole = split_at es row.0 ent (omega (arith, within)) ∙ ap (λ ps. front ++ ps)
        (ap (λ es'. places_from row.0 es' ent) rest ∙ mine (eqb_tells ent ent))

-- ---- the rows of a relation

-- the relation and its rows
pub record HasRows (d : Divided) (rel : RelId) : Type 0 where
  pub relation : Relation
  pub is_relation : slice_get d.spec.relations rel.0 ≡ Some relation
  pub rows_are : rows_in d rel ≡ relation.rows

pub relation_in : (d : Divided) (rel : RelId) → rel.0 < length d.spec.relations → HasRows d rel
relation_in d rel within =
    let at = item_at d.spec.relations rel.0 within in
    record { relation = at.0; is_relation = at.1; rows_are = ap rows_at at.1 }

pub relation_with : (d : Divided) (rel : RelId) (row : ℕ) → row < length (rows_in d rel) → HasRows d rel
relation_with d rel row within = by (slice_get d.spec.relations rel.0) refl within
  where
    by : (o : Option Relation) → slice_get d.spec.relations rel.0 ≡ o → row < length (rows_at o) → HasRows d rel
    by None at within = absurd (omega (arith, within))
    by (Some r) at within = record { relation = r; is_relation = at; rows_are = ap rows_at at }

-- ---- what is numbered of it

module _ (d : Divided) (n : Numbers) (is : IsDivided n d) (rel : RelId) where
  pub table_here : (r : Relation) → slice_get d.spec.relations rel.0 ≡ Some r
      → slice_get n.tables rel.0 ≡ Some (numbered d.wanted.currents rel.0 r)
  table_here r at = ap (λ (m : Numbers). slice_get m.tables rel.0) is.numbers
      ∙ table_at d.wanted.currents d.spec.relations rel.0 r at

  pub table_in : rel.0 < length d.spec.relations → rel.0 < length n.tables
  table_in within =
      let at = item_at d.spec.relations rel.0 within in
      slice_get_within n.tables rel.0 (numbered d.wanted.currents rel.0 at.0) (table_here at.0 at.1)

  wanted_some : (b : Bool) (r : Relation) → is_some (if b then Some (value_names_of r) else None) ≡ b
  wanted_some true r = refl
  wanted_some false r = refl

  pub wanted_is : (b : Bool) → rel.0 < length d.spec.relations
      → ((table : Numbered) → slice_get n.tables rel.0 ≡ Some table → b ≡ is_some table.names)
      → b ≡ is_wanted d.wanted.currents rel.0
  wanted_is b within gives =
      let at = item_at d.spec.relations rel.0 within in
      gives (numbered d.wanted.currents rel.0 at.0) (table_here at.0 at.1)
      ∙ wanted_some (is_wanted d.wanted.currents rel.0) at.0

  pub row_of_wanted : (attr : AttrId) (row : RowId) → IsWantedRow d rel attr row → IsRowOf n rel.0 attr.0 row
  row_of_wanted attr row of =
      subst (λ (m : Numbers). IsRowOf m rel.0 attr.0 row) (sym is.numbers)
      (row_of d.spec.relations d.wanted rel.0 attr.0 row of.relation of.is_relation of.attr_within of.row_within of.wanted)

  pub name_of_wanted : (attr : AttrId) (row name : RowId) → IsWantedRow d rel attr row
      → ((table : Numbered) (names : List (List RowId)) → slice_get n.tables rel.0 ≡ Some table → table.names ≡ Some names
      → slice_get (slice_index_or names attr.0 []) row.0 ≡ Some name)
      → name ≡ name_of (rows_in d rel) attr.0 row
  name_of_wanted attr row name of gives =
      name_is d.spec.relations d.wanted rel.0 attr.0 row of.relation of.is_relation of.attr_within of.row_within of.wanted name
      (λ table names at wants. gives table names (ap (λ (m : Numbers). slice_get m.tables rel.0) is.numbers ∙ at) wants)
      ∙ ap (λ rows. name_of rows attr.0 row) (sym (ap rows_at of.is_relation))

  -- ---- a row of it

  module _ (row : RowId) (within : row.0 < length (rows_in d rel)) (lists : Grouping)
      (gives : (table : Numbered) → slice_get n.tables rel.0 ≡ Some table → lists ≡ table.rows) where
    has : HasRows d rel
    has = relation_with d rel row.0 within

    lists_are : lists ≡ record { count = length (has.relation).entities; entities = entities_of (has.relation).rows }
    lists_are = gives (numbered d.wanted.currents rel.0 has.relation) (table_here has.relation has.is_relation)

    entities_are : lists.entities ≡ entities_of (rows_in d rel)
    entities_are = ap (λ (g : Grouping). g.entities) lists_are ∙ ap entities_of (sym has.rows_are)

    pub row_in_lists : row.0 < length lists.entities
    row_in_lists = omega (
      arith,
      ap (λ (es : List ℕ). length es) entities_are,
      length-entities_of (rows_in d rel),
    )

    pub rel_in_labels : rel.0 < length d.ties.labels
    rel_in_labels = omega (
      arith,
      is.ties.per_relation,
      slice_get_within d.spec.relations rel.0 has.relation has.is_relation,
    )

    pub ent_in_labels : (ent : ℕ) → ent < lists.count → ent < length (labels_in d.ties rel.0)
    ent_in_labels ent below = omega (
      arith,
      ap (λ (g : Grouping). g.count) lists_are,
      is.ties.per_entity rel.0 has.relation has.is_relation,
    )

    pub key_is : (ent part : ℕ) → slice_get lists.entities row.0 ≡ Some ent → label_of d.ties (cell rel.0 ent) ≡ Some part
        → part ≡ row_key d rel row
    unfolding row_key
    key_is ent part of labelled =
        let entity = entity_is (has.relation).rows row.0 ∙ (ap (λ (g : Grouping). slice_get g.entities row.0) (sym lists_are)
        ∙ of) in
        let c = cell_at d.spec.relations rel.0 row.0 has.relation ent has.is_relation entity in
        sym (ap (λ o. unwrap_or (label_at d.ties o) d.ties.count) c ∙ ap (λ o. unwrap_or o d.ties.count) labelled)

    -- how many rows of the entity come later
    pub laters_are : (ent place : ℕ) (rows : List RowId) → slice_get lists.entities row.0 ≡ Some ent
        → rows ≡ rows_of lists.entities ent
        → slice_get (rows_of lists.entities ent) place ≡ Some row
        → length rows ≡ place + (1 + laters (entities_of (rows_in d rel)) row.0)
    laters_are ent place rows of rows_are at =
        ap (λ (rs : List RowId). length rs) rows_are ∙ (ap (λ es. length (rows_of es ent)) entities_are
        ∙ counted (entities_of (rows_in d rel)) ent place row (ap (λ es. slice_get es row.0) (sym entities_are) ∙ of)
        (ap (λ es. slice_get (rows_of es ent) place) (sym entities_are) ∙ at))

-- there are few rows
pub few_rows : (d : Divided) (rel : RelId) (row : ℕ) → AreRelations d.spec.relations → row < length (rows_in d rel)
    → laters (entities_of (rows_in d rel)) row < 2 ^ 32
few_rows d rel row facts within =
    let has = relation_with d rel row within in
    let relation = all_at IsRelation d.spec.relations rel.0 has.relation facts.each has.is_relation in
    let es = entities_of (rows_in d rel) in
    let rest = drop (row + 1) es in
    omega (
      arith,
      relation.few_rows,
      ap (λ (rows : List Row). length rows) has.rows_are,
      length-entities_of (rows_in d rel),
      length-drop (row + 1) es,
      as_many (row + 1) rest (slice_index es row),
      rows_few (row + 1) rest (slice_index es row),
    )
