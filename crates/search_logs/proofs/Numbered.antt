-- The statements that are numbered of a specification: what each of them is on.
use Rattle.std.proofs.Common.{◌≡◌, ◌∙◌, ◌<◌, ◌+◌, ℕ, zero, suc, Bool, true, false, List, [], ◌∷◌, Some, None, if◌then◌else◌, length, slice_get, slice_index_or, refl, sym, ap, subst, arith}
use Rattle.std.proofs.lemmas.List.{length-map}
use Rattle.std.proofs.lemmas.List.FromFn.{length-map-range_with_len, get_or-map-range_with_len}
use Rattle.std.proofs.lemmas.Option.{none-some, same_Some, slice_get_within}
use Rattle.currency_base.specs.declared.ids.AttrId.{AttrId}
use Rattle.currency_base.specs.declared.ids.RelId.{RelId}
use Rattle.currency_base.specs.declared.ids.RowId.{RowId}
use Rattle.currency_base.specs.declared.row.Row.{Row}
use Rattle.entity_lists.specs.Lists.{entities_of}
use Rattle.partial_orders.specs.Pairs.{entity_of}
use Rattle.spec_model.specs.declared.relation.Relation.{Relation}
use Rattle.refutation_log.specs.declared.statement.Statement.{Statement}
use Rattle.refutation_log.specs.declared.statement.Statement.TheVariants.{Before, Top, Last, Answer}
use Rattle.value_names.specs.Names.{name_of, names_of, row_ids}
use Rattle.value_names.proofs.NameFacts.{name_at}
use Rattle.order_literals.specs.Numbers.{Numbered, is_wanted, value_names_of, numbered, tables_from, numbers_of, IsPairOf, IsRowOf}
use Rattle.order_literals.specs.Statements.{statements_of}
use Rattle.order_literals.specs.declared.wanted.Wanted.{Wanted}
use Rattle.order_literals.proofs.Items.{IsIn}
use Rattle.order_literals.proofs.Members.{IsNameOf, before_in, top_in, last_in, answer_in}
use Rattle.order_literals.proofs.RowLaws.{IsLess}
use Rattle.order_clauses.proofs.GivenPairs.{entity_there}

-- ---- what statements are on

-- an attribute of a relation, and two of its rows that are of one entity, the lesser first
pub record IsOnPair (relations : List Relation) (rel : RelId) (attr : AttrId) (earlier later : RowId) : Type 0 where
  pub relation : Relation
  pub is_relation : slice_get relations rel.0 ≡ Some relation
  pub attr_in : attr.0 < length relation.attrs
  pub ent : ℕ
  pub earlier_of : entity_of relation.rows earlier.0 ≡ Some ent
  pub later_of : entity_of relation.rows later.0 ≡ Some ent
  pub below : earlier.0 < later.0

-- an attribute of a relation, and one of its rows
pub record IsOnRow (relations : List Relation) (rel : RelId) (attr : AttrId) (row : RowId) : Type 0 where
  pub relation : Relation
  pub is_relation : slice_get relations rel.0 ≡ Some relation
  pub attr_in : attr.0 < length relation.attrs
  pub ent : ℕ
  pub row_of : entity_of relation.rows row.0 ≡ Some ent

-- and the row names its own value
pub record IsOnName (relations : List Relation) (rel : RelId) (attr : AttrId) (row : RowId) : Type 0 where
  pub on : IsOnRow relations rel attr row
  pub itself : name_of on.relation.rows attr.0 row ≡ row

-- a statement on what is there, where there are so many answers
abbrev pub IsOnRows : List Relation → ℕ → Statement → Type 0
IsOnRows relations answers (Before rel attr earlier later) = IsOnPair relations rel attr earlier later
IsOnRows relations answers (Top rel attr row) = IsOnRow relations rel attr row
IsOnRows relations answers (Last rel attr row) = IsOnName relations rel attr row
IsOnRows relations answers (Answer tuple) = tuple < answers

-- ---- tables are of relations

table_from : (currents : List RelId) (first : ℕ) (relations : List Relation) (place : ℕ) (t : Numbered)
    → slice_get (tables_from currents first relations) place ≡ Some t
    → (r : Relation) × (slice_get relations place ≡ Some r) × (numbered currents (first + place) r ≡ t)
table_from currents first [] place t at = absurd (none-some t at)
table_from currents first (r ∷ relations) zero t at =
    let start : first + 0 ≡ first = omega arith in
    (r, refl, ap (λ k. numbered currents k r) start ∙ same_Some (numbered currents first r) t at)
table_from currents first (r ∷ relations) (suc place) t at =
    let more = table_from currents (first + 1) relations place t at in
    let next : first + suc place ≡ first + 1 + place = omega arith in
    (more.0, more.1, ap (λ k. numbered currents k more.0) next ∙ more.2)

-- the relation that a table is of
record IsTableOf (relations : List Relation) (currents : List RelId) (rel : ℕ) (t : Numbered) : Type 0 where
  relation : Relation
  is_relation : slice_get relations rel ≡ Some relation
  is : numbered currents rel relation ≡ t

table_of : (currents : List RelId) (relations : List Relation) (rel : ℕ) (t : Numbered)
    → slice_get (tables_from currents 0 relations) rel ≡ Some t
    → IsTableOf relations currents rel t
table_of currents relations rel t at =
    let found = table_from currents 0 relations rel t at in
    let start : rel ≡ 0 + rel = omega arith in
    record { relation = found.0; is_relation = found.1; is = ap (λ k. numbered currents k found.0) start ∙ found.2 }

entity_is : (rows : List Row) (row : ℕ) → entity_of rows row ≡ slice_get (entities_of rows) row
entity_is [] row = refl
entity_is (x ∷ rows) zero = refl
entity_is (x ∷ rows) (suc row) = entity_is rows row

pub length_entities : (rows : List Row) → length (entities_of rows) ≡ length rows
length_entities [] = refl
length_entities (x ∷ rows) = ap suc (length_entities rows)

names_counted : (rows : List Row) (attr : ℕ) → length (names_of rows attr) ≡ length rows
names_counted rows attr =
    length-map (row_ids (length rows)) (name_of rows attr)
    ∙ length-map-range_with_len (λ (n : ℕ). let row : RowId = record { 0 = n } in row) 0 (length rows)

named_within : (r : Relation) (attr : ℕ) (row : RowId) → slice_get (names_of r.rows attr) row.0 ≡ Some row → row.0 < length r.rows
named_within r attr row e =
    let within = slice_get_within (names_of r.rows attr) row.0 row e in
    omega (arith, within, names_counted r.rows attr)

names_are : (test : Bool) (r : Relation) (names : List (List RowId)) →
    (if test then Some (value_names_of r) else None) ≡ Some names
    → value_names_of r ≡ names
names_are true r names e = same_Some (value_names_of r) names e
names_are false r names e = absurd (none-some names e)

module _ (relations : List Relation) (wanted : Wanted) where
  on_pair : (rel : RelId) (attr : AttrId) (t u : RowId) → IsPairOf (numbers_of relations wanted) rel.0 attr.0 t u → IsLess t u
      → IsOnPair relations rel attr t u
  on_pair rel attr t u pair below =
      let of = table_of wanted.currents relations rel.0 pair.table pair.is_table in
      let entities : entities_of of.relation.rows ≡ pair.table.rows.entities = ap (λ (t : Numbered). t.rows.entities) of.is in
      record {
        relation = of.relation;
        is_relation = of.is_relation;
        attr_in = subst (λ (t : Numbered). attr.0 < t.attrs) (sym of.is) pair.attr_within;
        ent = pair.ent;
        earlier_of = entity_is of.relation.rows t.0 ∙ (ap (λ l. slice_get l t.0) entities ∙ pair.first_of);
        later_of = entity_is of.relation.rows u.0 ∙ (ap (λ l. slice_get l u.0) entities ∙ pair.second_of);
        below = below;
      }

  on_row : (rel : RelId) (attr : AttrId) (row : RowId) → IsRowOf (numbers_of relations wanted) rel.0 attr.0 row
      → IsOnRow relations rel attr row
  on_row rel attr row is =
      let of = table_of wanted.currents relations rel.0 is.table is.is_table in
      let counted : row.0 < length (entities_of of.relation.rows) =
      subst (λ (t : Numbered). row.0 < length t.rows.entities) (sym of.is) is.row_within in
      let there = entity_there of.relation.rows row.0 (omega (arith, counted, length_entities of.relation.rows)) in
      record {
        relation = of.relation;
        is_relation = of.is_relation;
        attr_in = subst (λ (t : Numbered). attr.0 < t.attrs) (sym of.is) is.attr_within;
        ent = there.0;
        row_of = there.1;
      }

  on_name : (rel : RelId) (attr : AttrId) (row : RowId) → IsNameOf (numbers_of relations wanted) rel.0 attr.0 row
      → IsOnName relations rel attr row
  on_name rel attr row is =
      let of = table_of wanted.currents relations rel.0 is.table is.is_table in
      let r = of.relation in
      let attr_in : attr.0 < length r.attrs = subst (λ (t : Numbered). attr.0 < t.attrs) (sym of.is) is.attr_within in
      let all : value_names_of r ≡ is.names =
      names_are (is_wanted wanted.currents rel.0) r is.names (ap (λ (t : Numbered). t.names) of.is ∙ is.wanted) in
      let mine : slice_index_or is.names attr.0 [] ≡ names_of r.rows attr.0 =
      ap (λ lists. slice_index_or lists attr.0 []) (sym all)
      ∙ get_or-map-range_with_len (names_of r.rows) 0 (length r.attrs) attr.0 attr.0 [] attr_in (omega arith) in
      let named : slice_get (names_of r.rows attr.0) row.0 ≡ Some row = ap (λ list. slice_get list row.0) (sym mine) ∙ is.named in
      let row_in : row.0 < length r.rows = named_within r attr.0 row named in
      let there = entity_there r.rows row.0 row_in in
      record {
        on = record { relation = r; is_relation = of.is_relation; attr_in = attr_in; ent = there.0; row_of = there.1 };
        itself = same_Some (name_of r.rows attr.0 row) row (sym (name_at r.rows attr.0 row row_in) ∙ named);
      }

  -- each statement that is numbered is on what is there
  pub numbered_on : (st : Statement) → IsIn (statements_of (numbers_of relations wanted)) st → IsOnRows relations
      wanted.answers st
  numbered_on (Before rel attr t u) at =
      let is = before_in (numbers_of relations wanted) rel attr t u at in
      on_pair rel attr t u is.0 is.1
  numbered_on (Top rel attr row) at = on_row rel attr row (top_in (numbers_of relations wanted) rel attr row at)
  numbered_on (Last rel attr row) at = on_name rel attr row (last_in (numbers_of relations wanted) rel attr row at)
  numbered_on (Answer tuple) at = answer_in (numbers_of relations wanted) tuple at
