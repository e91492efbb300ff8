-- Each numbered statement but those on answers is about an entity, and both rows of a pair are of one.
use Rattle.std.proofs.Common.{◌≡◌, ◌∙◌, ◌<◌, ◌+◌, ℕ, zero, suc, Bool, true, false, List, [], ◌∷◌, Some, None, if◌then◌else◌, length, slice_get, slice_index_or, refl, sym, ap, arith}
use Rattle.std.proofs.lemmas.List.{length-map}
use Rattle.std.proofs.lemmas.List.FromFn.{length-map-range_with_len, get_or-map-range_with_len}
use Rattle.std.proofs.lemmas.Option.{same_Some, none-some, slice_get_within}
use Rattle.currency_base.specs.declared.ids.AttrId.{AttrId}
use Rattle.currency_base.specs.declared.ids.RelId.{RelId}
use Rattle.currency_base.specs.declared.ids.RowId.{RowId}
use Rattle.entity_lists.specs.Lists.{entities_of}
use Rattle.entity_lists.proofs.Facts.{length-entities_of}
use Rattle.spec_model.specs.declared.relation.Relation.{Relation}
use Rattle.value_names.specs.Names.{name_of, names_of, row_ids}
use Rattle.refutation_log.specs.declared.statement.Statement.{Statement}
use Rattle.refutation_log.specs.declared.statement.Statement.TheVariants as says
use Rattle.order_literals.specs.Numbers.{Numbered, is_wanted, numbered, numbers_of, tables_from, value_names_of}
use Rattle.order_literals.specs.Statements.{statements_of}
use Rattle.order_literals.specs.declared.wanted.Wanted.{Wanted}
use Rattle.order_literals.proofs.Items.{in_at}
use Rattle.order_literals.proofs.Members.{before_in, last_in, top_in}
use Rattle.order_clauses.proofs.Members.{entity_is}
use Rattle.entity_ties.specs.Labels.{cell}
use Rattle.entity_ties.specs.Tied.{Cell}
use Rattle.variable_parts.specs.Parts.{cell_of, row_cell}
use Rattle.variable_parts.proofs.Cells.{cell_at, entity_at_row}

-- what is numbered at a place is numbered of the relation at that place
pub record IsTableOf (currents : List RelId) (relations : List Relation) (rel : ℕ) (table : Numbered) : Type 0 where
  pub relation : Relation
  pub is_relation : slice_get relations rel ≡ Some relation
  pub number : ℕ
  pub is : table ≡ numbered currents number relation

tables_back : (currents : List RelId) (first : ℕ) (relations : List Relation) (rel : ℕ) (table : Numbered)
    → slice_get (tables_from currents first relations) rel ≡ Some table → IsTableOf currents relations rel table
tables_back currents first [] rel table e = absurd (none-some table e)
tables_back currents first (r ∷ relations) zero table e =
    record { relation = r; is_relation = refl; number = first; is = sym (same_Some (numbered currents first r) table e) }
tables_back currents first (r ∷ relations) (suc rel) table e =
    let more = tables_back currents (first + 1) relations rel table e in
    record { relation = more.relation; is_relation = more.is_relation; number = more.number; is = more.is }

-- ---- rows of a numbered relation

module _ (relations : List Relation) (wanted : Wanted) where
  pub table_of : (rel : ℕ) (table : Numbered) → slice_get (numbers_of relations wanted).tables rel ≡ Some table
      → IsTableOf wanted.currents relations rel table
  table_of rel table e = tables_back wanted.currents 0 relations rel table e

  entities_are : (rel : ℕ) (table : Numbered) (of : IsTableOf wanted.currents relations rel table) →
      table.rows.entities ≡ entities_of (of.relation).rows
  entities_are rel table of = ap (λ (n : Numbered). n.rows.entities) of.is

  -- the entity of a row that is read in the list of the rows' entities
  entity_there : (rel row ent : ℕ) (table : Numbered) (of : IsTableOf wanted.currents relations rel table)
      → slice_get table.rows.entities row ≡ Some ent → row_cell relations rel row ≡ Some (cell rel ent)
  entity_there rel row ent table of at =
      cell_at relations rel row of.relation ent of.is_relation
      (entity_is (of.relation).rows row ∙ (ap (λ es. slice_get es row) (sym (entities_are rel table of)) ∙ at))

  -- a row that is there has an entity
  row_there : (rel row : ℕ) (table : Numbered) (of : IsTableOf wanted.currents relations rel table)
      → row < length (of.relation).rows → (c : Cell) × (row_cell relations rel row ≡ Some c)
  row_there rel row table of within =
      let ent = entity_at_row (of.relation).rows row within in
      (cell rel ent.0, cell_at relations rel row of.relation ent.0 of.is_relation ent.1)

  -- a row that names a value is there
  names_in : (r : Relation) (attr row : ℕ) (name : RowId) (b : Bool) (names : List (List RowId)) → attr < length r.attrs
      → (if b then Some (value_names_of r) else None) ≡ Some names → slice_get (slice_index_or names attr []) row ≡ Some name
      → row < length r.rows
  names_in r attr row name false names within e at = absurd (none-some names e)
  names_in r attr row name true names within e at =
      let these : slice_index_or names attr [] ≡ names_of r.rows attr =
      ap (λ (ns : List (List RowId)). slice_index_or ns attr []) (sym (same_Some (value_names_of r) names e))
      ∙ get_or-map-range_with_len (names_of r.rows) 0 (length r.attrs) attr attr [] within (omega arith) in
      let ids : length (row_ids (length r.rows)) ≡ length r.rows =
      length-map-range_with_len {X = RowId} (λ at. record { 0 = at }) 0 (length r.rows) in
      let many = length-map (row_ids (length r.rows)) (name_of r.rows attr) in
      omega (arith, slice_get_within (slice_index_or names attr []) row name at, ap (λ (l : List RowId). length l) these)

  -- ---- statements

  -- of two rows of which one is numbered to stand before the other, the statements are about one entity
  pub same_cell : (rel : RelId) (attr : AttrId) (earlier later : RowId) (var : ℕ)
      → slice_get (statements_of (numbers_of relations wanted)) var ≡ Some (says.Before rel attr earlier later)
      → (c : Cell) × (row_cell relations rel.0 earlier.0 ≡ Some c) × (row_cell relations rel.0 later.0 ≡ Some c)
  same_cell rel attr earlier later var at =
      let pair = (before_in (numbers_of relations wanted) rel attr earlier later
      (in_at (statements_of (numbers_of relations wanted)) var (says.Before rel attr earlier later) at)).0 in
      let of = table_of rel.0 pair.table pair.is_table in (
        cell rel.0 pair.ent,
        entity_there rel.0 earlier.0 pair.ent pair.table of pair.first_of,
        entity_there rel.0 later.0 pair.ent pair.table of pair.second_of,
      )

  pub statement_cell : (var : ℕ) (statement : Statement) → slice_get (statements_of (numbers_of relations wanted)) var
      ≡ Some statement
      → ((tuple : ℕ) → statement ≡ says.Answer tuple → ⊥) → (c : Cell) × (cell_of relations statement ≡ Some c)
  statement_cell var (says.Before rel attr earlier later) at other =
      let c = same_cell rel attr earlier later var at in
      (c.0, c.1)
  statement_cell var (says.Top rel attr row) at other =
      let of_row = top_in (numbers_of relations wanted) rel attr row
      (in_at (statements_of (numbers_of relations wanted)) var (says.Top rel attr row) at) in
      let of = table_of rel.0 of_row.table of_row.is_table in
      let many = length-entities_of (of.relation).rows in
      let same : length of_row.table.rows.entities ≡ length (entities_of (of.relation).rows) =
      ap (λ (es : List ℕ). length es) (entities_are rel.0 of_row.table of) in
      row_there rel.0 row.0 of_row.table of (omega (arith, of_row.row_within))
  statement_cell var (says.Last rel attr row) at other =
      let name = last_in (numbers_of relations wanted) rel attr row
      (in_at (statements_of (numbers_of relations wanted)) var (says.Last rel attr row) at) in
      let of = table_of rel.0 name.table name.is_table in
      let attr_within : attr.0 < length (of.relation).attrs =
      omega (arith, name.attr_within, ap (λ (n : Numbered). n.attrs) of.is) in
      row_there rel.0 row.0 name.table of
      (names_in of.relation attr.0 row.0 row (is_wanted wanted.currents of.number) name.names attr_within
      (sym (ap (λ (n : Numbered). n.names) of.is) ∙ name.wanted) name.named)
  statement_cell var (says.Answer tuple) at other = absurd (other tuple refl)
