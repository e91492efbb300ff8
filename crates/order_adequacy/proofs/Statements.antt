-- What a numbered statement is of: two rows of a relation, a row, or a row that names its value.
use Rattle.std.proofs.Common.{◌≡◌, ◌∙◌, ◌+◌, ◌<◌, ℕ, zero, suc, Bool, true, false, cond, List, [], ◌∷◌, Contains, Some, None, length, slice_get, slice_index_or, refl, sym, ap, subst, arith}
use Rattle.std.proofs.lemmas.List.{length-map}
use Rattle.std.proofs.lemmas.List.FromFn.{get_or-map-range_with_len, length-map-range_with_len}
use Rattle.std.proofs.lemmas.Option.{same_Some, none-some, slice_get_within}
use Rattle.currency_base.specs.declared.ids.AttrId.{AttrId}
use Rattle.currency_base.specs.declared.ids.RelId.{RelId}
use Rattle.currency_base.specs.declared.ids.RowId.{RowId}
use Rattle.currency_base.specs.declared.row.Row.{Row}
use Rattle.entity_lists.specs.Lists.{entities_of}
use Rattle.order_literals.proofs.Items.{in_contained}
use Rattle.order_literals.proofs.Members.{IsNameOf, top_in, last_in}
use Rattle.order_literals.specs.Numbers.{Numbered, is_wanted, value_names_of, numbered, tables_from, numbers_of, IsPairOf, IsRowOf}
use Rattle.order_literals.specs.Statements.{statements_of}
use Rattle.order_literals.specs.declared.wanted.Wanted.{Wanted}
use Rattle.partial_orders.specs.Pairs.{entity_of}
use Rattle.refutation_log.specs.declared.statement.Statement.TheVariants as says
use Rattle.spec_model.specs.declared.relation.Relation.{Relation}
use Rattle.value_names.proofs.NameFacts.{name_at}
use Rattle.value_names.specs.Names.{row_ids, name_of, names_of}
use Rattle.order_adequacy.proofs.Orders.{ArePair}
use Rattle.order_adequacy.proofs.Rows.{entity_is, entity_there}

-- ---- tables are of relations

table_from : (currents : List RelId) (first : ℕ) (relations : List Relation) (place : ℕ) (t : Numbered)
    → slice_get (tables_from currents first relations) place ≡ Some t
    → (r : Relation) × (slice_get relations place ≡ Some r) × (numbered currents (first + place) r ≡ t)
table_from currents first [] place t at = absurd (none-some t at)
table_from currents first (r ∷ relations) zero t at =
    let start : first + 0 ≡ first = omega arith in
    (r, refl, ap (λ k. numbered currents k r) start ∙ same_Some (numbered currents first r) t at)
table_from currents first (r ∷ relations) (suc place) t at =
    let more = table_from currents (first + 1) relations place t at in
    let next : first + suc place ≡ first + 1 + place = omega arith in
    (more.0, more.1, ap (λ k. numbered currents k more.0) next ∙ more.2)

table_of : (currents : List RelId) (relations : List Relation) (rel : ℕ) (t : Numbered)
    → slice_get (tables_from currents 0 relations) rel ≡ Some t
    → (r : Relation) × (slice_get relations rel ≡ Some r) × (numbered currents rel r ≡ t)
table_of currents relations rel t at =
    let found = table_from currents 0 relations rel t at in
    let start : rel ≡ 0 + rel = omega arith in
    (found.0, found.1, ap (λ k. numbered currents k found.0) start ∙ found.2)

-- two rows of a table are two rows of its relation
pub pair_of_relation : (relations : List Relation) (wanted : Wanted) (rel attr : ℕ) (a b : RowId)
    → IsPairOf (numbers_of relations wanted) rel attr a b
    → ArePair relations rel attr a b
pair_of_relation relations wanted rel attr a b pair =
    let found = table_of wanted.currents relations rel pair.table pair.is_table in
    let attrs : length found.0.attrs ≡ pair.table.attrs = ap (λ (t : Numbered). t.attrs) found.2 in
    let entities : entities_of found.0.rows ≡ pair.table.rows.entities = ap (λ (t : Numbered). t.rows.entities) found.2 in
    record {
      relation = found.0;
      is_relation = found.1;
      attr_in = subst (λ k. attr < k) (sym attrs) pair.attr_within;
      two = record {
        ent = pair.ent;
        a_of = entity_is found.0.rows a.0 ∙ (ap (λ l. slice_get l a.0) entities ∙ pair.first_of);
        b_of = entity_is found.0.rows b.0 ∙ (ap (λ l. slice_get l b.0) entities ∙ pair.second_of);
        differ = pair.differ;
      };
    }

-- ---- names

-- a row that stands at its own place in the list of names names itself
own_name : (rows : List Row) (attr : ℕ) (row : RowId) → slice_get (names_of rows attr) row.0 ≡ Some row →
    (row.0 < length rows) × (name_of rows attr row ≡ row)
own_name rows attr row here =
    let many = length-map (row_ids (length rows)) (name_of rows attr) in
    let id : ℕ → RowId = λ at. record { 0 = at } in
    let count = length-map-range_with_len id 0 (length rows) in
    let listed = slice_get_within (names_of rows attr) row.0 row here in
    let within : row.0 < length rows = omega (arith, listed, many, count) in
    (within, same_Some (name_of rows attr row) row (sym (name_at rows attr row within) ∙ here))

-- ---- statements on rows

-- a row of a relation whose current values are wanted, and one of its attributes
pub record IsWantedRow (relations : List Relation) (wanted : Wanted) (rel attr : ℕ) (row : RowId) : Type 0 where
  pub relation : Relation
  pub is_relation : slice_get relations rel ≡ Some relation
  pub wants : is_wanted wanted.currents rel ≡ true
  pub attr_in : attr < length relation.attrs
  pub ent : ℕ
  pub of_entity : entity_of relation.rows row.0 ≡ Some ent

-- such a row that names its value
pub record IsWantedName (relations : List Relation) (wanted : Wanted) (rel attr : ℕ) (row : RowId) : Type 0 where
  pub row_is : IsWantedRow relations wanted rel attr row
  pub named : name_of row_is.relation.rows attr row ≡ row

wants_if : (b : Bool) (given names : List (List RowId)) → cond b (Some given) None ≡ Some names → (b ≡ true) × (given ≡ names)
wants_if true given names e = (refl, same_Some given names e)
wants_if false given names e = absurd (none-some names e)

wanted_row : (relations : List Relation) (wanted : Wanted) (rel attr : ℕ) (row : RowId)
    → IsRowOf (numbers_of relations wanted) rel attr row
    → IsWantedRow relations wanted rel attr row
wanted_row relations wanted rel attr row is =
    let found = table_of wanted.currents relations rel is.table is.is_table in
    let r = found.0 in
    let attrs : length r.attrs ≡ is.table.attrs = ap (λ (x : Numbered). x.attrs) found.2 in
    let entities : length (entities_of r.rows) ≡ length is.table.rows.entities =
    ap (λ (x : Numbered). length x.rows.entities) found.2 in
    let many = length-map r.rows (λ row. row.entity.0) in
    let within : row.0 < length r.rows = omega (arith, entities, many, is.row_within) in
    let ent = entity_there r.rows row.0 within in
    let named : (numbered wanted.currents rel r).names ≡ Some is.names = ap (λ (x : Numbered). x.names) found.2 ∙ is.wanted in
    record {
      relation = r;
      is_relation = found.1;
      wants = (wants_if (is_wanted wanted.currents rel) (value_names_of r) is.names named).0;
      attr_in = subst (λ k. attr < k) (sym attrs) is.attr_within;
      ent = ent.0;
      of_entity = ent.1;
    }

wanted_name : (relations : List Relation) (wanted : Wanted) (rel attr : ℕ) (row : RowId)
    → IsNameOf (numbers_of relations wanted) rel attr row
    → IsWantedName relations wanted rel attr row
wanted_name relations wanted rel attr row is =
    let found = table_of wanted.currents relations rel is.table is.is_table in
    let r = found.0 in
    let attrs : length r.attrs ≡ is.table.attrs = ap (λ (x : Numbered). x.attrs) found.2 in
    let inside : attr < length r.attrs = subst (λ k. attr < k) (sym attrs) is.attr_within in
    let named : (numbered wanted.currents rel r).names ≡ Some is.names = ap (λ (x : Numbered). x.names) found.2 ∙ is.wanted in
    let both = wants_if (is_wanted wanted.currents rel) (value_names_of r) is.names named in
    let read : slice_index_or (value_names_of r) attr [] ≡ names_of r.rows attr =
    get_or-map-range_with_len (names_of r.rows) 0 (length r.attrs) attr attr [] inside (omega arith) in
    let here : slice_index_or is.names attr [] ≡ names_of r.rows attr = ap (λ l. slice_index_or l attr []) (sym both.1) ∙ read in
    let own = own_name r.rows attr row (subst (λ l. slice_get l row.0 ≡ Some row) here is.named) in
    let ent = entity_there r.rows row.0 own.0 in
    record {
      row_is = record {
        relation = r;
        is_relation = found.1;
        wants = both.0;
        attr_in = inside;
        ent = ent.0;
        of_entity = ent.1;
      };
      named = own.1;
    }

-- a statement that a row stands last is of a wanted row
pub top_of_row : (relations : List Relation) (wanted : Wanted) (rel : RelId) (attr : AttrId) (row : RowId)
    → Contains (statements_of (numbers_of relations wanted)) (says.Top rel attr row) → IsWantedRow relations wanted
    rel.0 attr.0 row
top_of_row relations wanted rel attr row at =
    let n = numbers_of relations wanted in
    wanted_row relations wanted rel.0 attr.0 row
    (top_in n rel attr row (in_contained (statements_of n) (says.Top rel attr row) at))

-- and a statement that a value is current is of a wanted row that names its value
pub last_of_name : (relations : List Relation) (wanted : Wanted) (rel : RelId) (attr : AttrId) (row : RowId)
    → Contains (statements_of (numbers_of relations wanted)) (says.Last rel attr row) → IsWantedName relations wanted
    rel.0 attr.0 row
last_of_name relations wanted rel attr row at =
    let n = numbers_of relations wanted in
    wanted_name relations wanted rel.0 attr.0 row
    (last_in n rel attr row (in_contained (statements_of n) (says.Last rel attr row) at))
