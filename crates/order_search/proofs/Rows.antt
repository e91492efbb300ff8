-- The rows of lists, and what is numbered of them.
use Rattle.std.proofs.Common.{◌≡◌, ◌≢◌, ◌<◌, ◌≤◌, ◌∙◌, ℕ, zero, suc, Bool, List, [], ◌∷◌, Some, get_or, length, slice_get, slice_index_or, sym, ap, subst, arith}
use Rattle.std.proofs.lemmas.Option.{slice_get-get_or, slice_get_within}
use Rattle.currency_base.specs.Literals.{var_of}
use Rattle.currency_base.specs.declared.ids.AttrId.{AttrId}
use Rattle.currency_base.specs.declared.ids.RelId.{RelId}
use Rattle.currency_base.specs.declared.ids.RowId.{RowId}
use Rattle.currency_base.specs.declared.lit.Lit.{Lit}
use Rattle.currency_base.specs.declared.row.Row.{Row}
use Rattle.entity_lists.specs.Lists.{Grouping, entities_of, rows_of}
use Rattle.entity_lists.proofs.Facts.{found_in, member_of, rows_once}
use Rattle.partial_orders.specs.Pairs.{entity_of}
use Rattle.spec_model.specs.Facts.{IsRelation}
use Rattle.spec_model.specs.Spec.{Spec}
use Rattle.spec_model.specs.declared.relation.Relation.{Relation}
use Rattle.value_names.proofs.NameFacts
use Rattle.value_names.specs.Names.{name_of}
use Rattle.order_literals.proofs.Callers.{entity_read, table_at, pair_of, row_of, name_is, own_name}
use Rattle.order_literals.specs.Axioms.{AreTwo}
use Rattle.order_literals.specs.Numbers.{IsPairOf, IsRowOf, Numbered, Numbers, numbered, numbers_of}
use Rattle.order_literals.specs.Said.{Says, last}
use Rattle.order_literals.specs.Statements.{statements_of}
use Rattle.order_literals.specs.declared.wanted.Wanted.{Wanted}
use Rattle.search_logs.specs.SearchLogs.{variables}
use Rattle.order_links.specs.Lists.{IsListOf}
use Rattle.order_links.specs.declared.list.ListId.{ListId}
use Rattle.watch_solver.specs.Decided.{Solver}
use Rattle.order_search.specs.Kept.{AreRowsOf, IsOfList, search_of, seen_of, vars_of}
use Rattle.order_search.specs.Searches.{IsSearch, IsWantedRow, Search, Subject}

-- ---- the rows of a list

module _ (relations : List Relation) (wanted : Wanted) (n : Numbers) (same : n ≡ numbers_of relations wanted)
    (list : ListId) (is : IsListOf relations list) where
  list_table : slice_get n.tables list.rel.0 ≡ Some (numbered wanted.currents list.rel.0 is.relation)
  list_table =
      ap (λ (m : Numbers). slice_get m.tables list.rel.0) same ∙ table_at wanted.currents relations list.rel.0
      is.relation is.is_relation

  pub list_rel : list.rel.0 < length n.tables
  list_rel = slice_get_within n.tables list.rel.0 (numbered wanted.currents list.rel.0 is.relation) list_table

  grouping : (g : Grouping) → ((t : Numbered) → slice_get n.tables list.rel.0 ≡ Some t → g ≡ t.rows)
      → g ≡ record { count = length is.relation.entities; entities = entities_of is.relation.rows }
  grouping g gives = gives (numbered wanted.currents list.rel.0 is.relation) list_table

  pub list_ent : (g : Grouping) → ((t : Numbered) → slice_get n.tables list.rel.0 ≡ Some t → g ≡ t.rows) → list.ent.0 < g.count
  list_ent g gives =
      let e = ap (λ (h : Grouping). h.count) (grouping g gives) in
      let below = is.ent_within in
      omega (arith, e, below)

  pub list_rows : (g : Grouping) (rows : List RowId) → ((t : Numbered) → slice_get n.tables list.rel.0 ≡ Some t → g ≡ t.rows)
      → rows ≡ rows_of g.entities list.ent.0 → (r : Relation) → slice_get relations list.rel.0 ≡ Some r
      → rows ≡ rows_of (entities_of r.rows) list.ent.0
  list_rows g rows gives e r at =
      let one : Some is.relation ≡ Some r = sym is.is_relation ∙ at in
      let here : is.relation ≡ r = cc in
      e ∙ ap (λ (h : Grouping). rows_of h.entities list.ent.0) (grouping g gives)
      ∙ ap (λ (q : Relation). rows_of (entities_of q.rows) list.ent.0) here

-- ---- two rows of a list

entity_there : (rows : List Row) (row ent : ℕ) → slice_get (entities_of rows) row ≡ Some ent → entity_of rows row ≡ Some ent
entity_there [] row ent e = let no : ⊥ = cc in absurd no
entity_there (r ∷ rows) zero ent e = e
entity_there (r ∷ rows) (suc row) ent e = entity_there rows row ent e

module _ (s : Subject) (list : ListId) (rows : List RowId) (are : AreRowsOf s list rows) where
  table : List Row
  table = are.is_list.relation.rows

  row_at : (i : ℕ) (row : RowId) → slice_get rows i ≡ Some row
      → slice_get (rows_of (entities_of are.is_list.relation.rows) list.ent.0) i ≡ Some row
  row_at i row e = ap (λ (xs : List RowId). slice_get xs i) (sym (are.rows_are are.is_list.relation are.is_list.is_relation)) ∙ e

  pub of_entity : (i : ℕ) (row : RowId) → slice_get rows i ≡ Some row
      → entity_of are.is_list.relation.rows row.0 ≡ Some list.ent.0
  of_entity i row e =
      entity_there are.is_list.relation.rows row.0 list.ent.0 (member_of (entities_of are.is_list.relation.rows)
      list.ent.0 i row (row_at i row e))

  -- a row of the entity stands in the list
  pub found_row : (row : RowId) → entity_of are.is_list.relation.rows row.0 ≡ Some list.ent.0
      → (i : ℕ) × (slice_get rows i ≡ Some row)
  found_row row of =
      let found = found_in (entities_of are.is_list.relation.rows) list.ent.0 row
      (entity_read are.is_list.relation.rows row.0 list.ent.0 of) in
      let same = are.rows_are are.is_list.relation are.is_list.is_relation in
      (found.0, ap (λ (xs : List RowId). slice_get xs found.0) same ∙ found.1)

  two_rows : (i j : ℕ) (a b : RowId) → slice_get rows i ≡ Some a → slice_get rows j ≡ Some b → i ≢ j
      → AreTwo are.is_list.relation.rows a b
  two_rows i j a b at_i at_j differ = record {
    ent = list.ent.0;
    a_of = of_entity i a at_i;
    b_of = of_entity j b at_j;
    differ = λ e.
        differ (rows_once (entities_of are.is_list.relation.rows) list.ent.0 i j b (row_at i a at_i ∙ ap Some e)
        (row_at j b at_j));
  }

  pair_there : (i j : ℕ) (a b : RowId) → slice_get rows i ≡ Some a → slice_get rows j ≡ Some b → i ≢ j
      → IsPairOf (numbers_of s.spec.relations s.wanted) list.rel.0 list.attr.0 a b
  pair_there i j a b at_i at_j differ =
      pair_of s.spec.relations s.wanted list.rel.0 list.attr.0 a b are.is_list.relation are.is_list.is_relation
      are.is_list.attr_within
      (two_rows i j a b at_i at_j differ)

  -- the rows at two places
  pub pair_read : (i j : ℕ) (d : RowId) → i < length rows → j < length rows → i ≢ j
      → IsPairOf (numbers_of s.spec.relations s.wanted) list.rel.0 list.attr.0 (get_or rows i d) (get_or rows j d)
  pair_read i j d below_i below_j differ =
      pair_there i j (get_or rows i d) (get_or rows j d) (slice_get-get_or rows i d below_i)
      (slice_get-get_or rows j d below_j) differ

  -- the first three rows stand for the list
  pub front_there : (d : RowId) → 3 ≤ length rows
      → IsOfList s (record {
        rel = list.rel;
        attr = list.attr;
        ent = list.ent;
        first = get_or rows 0 d;
        second =
            get_or rows 1 d;
        third = get_or rows 2 d;
      })
  front_there d many =
      let at_0 = slice_get-get_or rows 0 d (omega (arith, many)) in
      let at_1 = slice_get-get_or rows 1 d (omega (arith, many)) in
      record {
        relation = are.is_list.relation;
        is_relation = are.is_list.is_relation;
        attr_within = are.is_list.attr_within;
        ent_within = are.is_list.ent_within;
        first_of = of_entity 0 (get_or rows 0 d) at_0;
        second_of = of_entity 1 (get_or rows 1 d) at_1;
        pair = pair_there 0 1 (get_or rows 0 d) (get_or rows 1 d) at_0 at_1 (λ e. absurd (omega (arith, e)));
      }

-- ---- a row of a wanted relation

-- the numbering has this as the name of a row
abbrev pub IsNamed : Numbers → RelId → AttrId → RowId → RowId → Type 0
IsNamed n rel attr row name =
    (table : Numbered) (names : List (List RowId)) → slice_get n.tables rel.0 ≡ Some table → table.names ≡ Some names
    → slice_get (slice_index_or names attr.0 []) row.0 ≡ Some name

-- what callers of a numbering need of such a row, whose name the numbering answers
pub record WantedFacts (relations : List Relation) (wanted : Wanted) (n : Numbers) (rel : RelId) (attr : AttrId)
    (row : RowId) : Type 0 where
  pub relation : Relation
  pub is_relation : slice_get relations rel.0 ≡ Some relation
  pub numbered : IsRowOf n rel.0 attr.0 row
  pub name_read : (name : RowId) → IsNamed n rel attr row name → name ≡ name_of relation.rows attr.0 row
  pub name_numbered : (name : RowId) → IsNamed n rel attr row name → IsRowOf n rel.0 attr.0 name
  pub name_own : (name : RowId) → IsNamed n rel attr row name → IsNamed n rel attr name name

pub wanted_there : (s : Spec) (wanted : Wanted) (n : Numbers) → n ≡ numbers_of s.relations wanted →
    (rel : RelId) (attr : AttrId) (row : RowId)
    → IsWantedRow s wanted rel attr row → (r : Relation) → slice_get s.relations rel.0 ≡ Some r → IsRelation r
    → WantedFacts s.relations wanted n rel attr row
wanted_there s wanted n same rel attr row is r at facts = record {
  relation = r;
  is_relation = at;
  numbered = at_numbers (λ m. IsRowOf m rel.0 attr.0 row) (row_of s.relations wanted rel.0 attr.0 row r at attr_in
      row_in is.is_wanted);
  name_read = λ name gives. reads name gives;
  name_numbered = λ name gives.
      let least = (NameFacts.named r attr.0 facts attr_in row row_in).least in
      subst (λ (x : RowId). IsRowOf n rel.0 attr.0 x) (sym (reads name gives))
      (at_numbers (λ m. IsRowOf m rel.0 attr.0 (name_of r.rows attr.0 row))
      (row_of s.relations wanted rel.0 attr.0 (name_of r.rows attr.0 row) r at attr_in (omega (arith, least, row_in))
      is.is_wanted));
  name_own = λ name gives table names in_table some.
      subst (λ (x : RowId). slice_get (slice_index_or names attr.0 []) x.0 ≡ Some x) (sym (reads name gives))
      (own_name s.relations wanted rel.0 attr.0 row r facts at attr_in row_in is.is_wanted table names
      (sym (ap (λ (m : Numbers). slice_get m.tables rel.0) same) ∙ in_table) some);
}
  where
    here : is.relation ≡ r
    here = let one : Some is.relation ≡ Some r = sym is.is_relation ∙ at in cc

    attr_in : attr.0 < length r.attrs
    attr_in = subst (λ (q : Relation). attr.0 < length q.attrs) here is.attr_within

    row_in : row.0 < length r.rows
    row_in = subst (λ (q : Relation). row.0 < length q.rows) here is.row_within

    at_numbers : (P : Numbers → Type 0) → P (numbers_of s.relations wanted) → P n
    at_numbers P p = subst P (sym same) p

    reads : (name : RowId) → IsNamed n rel attr row name → name ≡ name_of r.rows attr.0 row
    reads name gives =
        name_is s.relations wanted rel.0 attr.0 row r at attr_in row_in is.is_wanted name
        (λ table names in_table some. gives table names (ap (λ (m : Numbers). slice_get m.tables rel.0) same ∙ in_table) some)

-- the literal that says that the value of its name is current says that its value is
pub named_as : (s : Spec) (wanted : Wanted) (n : Numbers) → n ≡ numbers_of s.relations wanted →
    (rel : RelId) (attr : AttrId) (row : RowId)
    → (f : WantedFacts s.relations wanted n rel attr row) → (name : RowId) → IsNamed n rel attr row name → (lit : Lit)
    → Says (statements_of n) lit (last rel attr name) → (r : Relation) → slice_get s.relations rel.0 ≡ Some r
    → Says (variables s wanted) lit (last rel attr (name_of r.rows attr.0 row))
named_as s wanted n same rel attr row f name gives lit says r at =
    let one : Some f.relation ≡ Some r = sym f.is_relation ∙ at in
    let here : f.relation ≡ r = cc in
    subst (λ (m : Numbers). Says (statements_of m) lit (last rel attr (name_of r.rows attr.0 row))) same
    (subst (λ (x : RowId). Says (statements_of n) lit (last rel attr x))
    (f.name_read name gives ∙ ap (λ (q : Relation). name_of q.rows attr.0 row) here) says)

-- ---- a literal that says something of a search's statements

pub literal_within : (s : Subject) (solver : Solver) {failed : Bool} (now : Search) → seen_of s solver failed ≡ now
    → IsSearch (search_of s solver) → (lit : Lit)
    → var_of lit < length (vars_of s) → var_of lit < length now.log.statements
literal_within s solver now e is lit below =
    subst (λ (x : Search). var_of lit < length x.log.statements) e
    (subst (λ ss. var_of lit < length ss) (sym is.log.statements) below)
