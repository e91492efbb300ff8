-- The entities that statements are about, and their parts.
use Rattle.std.proofs.Common.{◌≡◌, ◌∙◌, ◌<◌, ℕ, List, Option, Some, None, option_map, length, slice_get, refl, ap, subst, arith}
use Rattle.std.proofs.lemmas.Option.{same_Some, none-some}
use Rattle.currency_base.specs.declared.row.Row.{Row}
use Rattle.partial_orders.specs.Pairs.{entity_of}
use Rattle.spec_model.specs.Facts.{IsRelation, IsSpecification}
use Rattle.spec_model.specs.Spec.{Spec}
use Rattle.spec_model.specs.declared.relation.Relation.{Relation}
use Rattle.refutation_log.specs.declared.statement.Statement.{Statement}
use Rattle.refutation_log.specs.declared.statement.Statement.TheVariants as says
use Rattle.order_clauses.proofs.Reading.{all_at, item_at}
use Rattle.entity_ties.specs.Labels.{AreTies, Labelling, cell, label_of, labels_in}
use Rattle.entity_ties.specs.Tied.{Cell, IsCell}
use Rattle.variable_parts.specs.Parts.{cell_of, entity_in, label_at, part_of, row_cell}

-- an entity is that of this row of a relation
pub record IsOfRow (relations : List Relation) (rel row : ℕ) (c : Cell) : Type 0 where
  pub relation : Relation
  pub is_relation : slice_get relations rel ≡ Some relation
  pub ent : ℕ
  pub of_row : entity_of relation.rows row ≡ Some ent
  pub is : cell rel ent ≡ c

-- an entity is that of a row
pub record IsOfSome (relations : List Relation) (c : Cell) : Type 0 where
  pub rel : ℕ
  pub row : ℕ
  pub of : IsOfRow relations rel row c

pub cell_at : (relations : List Relation) (rel row : ℕ) (r : Relation) (ent : ℕ) → slice_get relations rel ≡ Some r
    → entity_of r.rows row ≡ Some ent → row_cell relations rel row ≡ Some (cell rel ent)
cell_at relations rel row r ent at of =
    ap (λ o. option_map (cell rel) (entity_in row o)) at ∙ ap (option_map (cell rel)) of

pub of_row_cell : (relations : List Relation) (rel row : ℕ) (c : Cell) → row_cell relations rel row ≡ Some c
    → IsOfRow relations rel row c
of_row_cell relations rel row c e = by (slice_get relations rel) refl e
  where
    of_entity : (r : Relation) → slice_get relations rel ≡ Some r → (o : Option ℕ) → entity_of r.rows row ≡ o
        → option_map (cell rel) o ≡ Some c → IsOfRow relations rel row c
    of_entity r at None of e = absurd (none-some c e)
    of_entity r at (Some ent) of e = record {
      relation = r;
      is_relation = at;
      ent = ent;
      of_row = of;
      is = same_Some (cell rel ent) c e;
    }

    by : (o : Option Relation) → slice_get relations rel ≡ o → option_map (cell rel) (entity_in row o) ≡ Some c
        → IsOfRow relations rel row c
    by None at e = absurd (none-some c e)
    by (Some r) at e = of_entity r at (entity_of r.rows row) refl e

-- what a statement is about is the entity of a row
pub of_statement : (relations : List Relation) (s : Statement) (c : Cell) → cell_of relations s ≡ Some c → IsOfSome relations c
of_statement relations (says.Before rel attr earlier later) c e =
    record { rel = rel.0; row = earlier.0; of = of_row_cell relations rel.0 earlier.0 c e }
of_statement relations (says.Top rel attr row) c e =
    record { rel = rel.0; row = row.0; of = of_row_cell relations rel.0 row.0 c e }
of_statement relations (says.Last rel attr row) c e =
    record { rel = rel.0; row = row.0; of = of_row_cell relations rel.0 row.0 c e }
of_statement relations (says.Answer tuple) c e = absurd (none-some c e)

-- ---- rows and their entities

pub row_at : (rows : List Row) (row ent : ℕ) → entity_of rows row ≡ Some ent →
    (x : Row) × (slice_get rows row ≡ Some x) × (x.entity.0 ≡ ent)
row_at rows row ent e = by (slice_get rows row) refl e
  where
    by : (o : Option Row) → slice_get rows row ≡ o → entity_of rows row ≡ Some ent →
        (x : Row) × (slice_get rows row ≡ Some x) × (x.entity.0 ≡ ent)
    by None at e = cc
    by (Some x) at e = (x, at, cc)

pub entity_at_row : (rows : List Row) (row : ℕ) → row < length rows → (ent : ℕ) × (entity_of rows row ≡ Some ent)
entity_at_row rows row within = let x = item_at rows row within in ((x.0).entity.0, cc (x.1))

-- a relation of a specification keeps what each does
pub relation_is : (s : Spec) (rel : ℕ) (r : Relation) → IsSpecification s → slice_get s.relations rel ≡ Some r → IsRelation r
relation_is s rel r is at = all_at IsRelation s.relations rel r is.relations.each at

-- the entity of a row is there
pub there : (s : Spec) (c : Cell) → IsSpecification s → IsOfSome s.relations c → IsCell s c
there s c is some =
    let of = some.of in
    let x = row_at of.relation.rows some.row of.ent of.of_row in
    let facts = relation_is s some.rel of.relation is of.is_relation in
    let below = all_at (λ (row : Row). row.entity.0 < length of.relation.entities) of.relation.rows some.row x.0 facts.entities
    x.1 in
    subst (IsCell s) of.is (let here : IsCell s (cell some.rel of.ent) = record {
      relation = of.relation;
      is_relation = of.is_relation;
      within = omega (arith, below, x.2);
    } in here)

-- ---- parts

-- an entity that is there has a part
pub has_label : (s : Spec) (t : Labelling) (c : Cell) → AreTies s t → IsCell s c → (part : ℕ) × (label_of t c ≡ Some part)
has_label s t c ties is =
    let many = ties.per_entity c.rel is.relation is.is_relation in
    item_at (labels_in t c.rel) c.ent (omega (arith, many, is.within))

-- a statement about an entity has the part of it
pub part_at : (s : Spec) (t : Labelling) (statement : Statement) (c : Cell) → cell_of s.relations statement ≡ Some c
    → part_of t s.relations statement ≡ label_of t c
part_at s t statement c e = ap (label_at t) e

-- a statement about an entity has a part
pub has_part : (s : Spec) (t : Labelling) (statement : Statement) (c : Cell) → IsSpecification s → AreTies s t
    → cell_of s.relations statement ≡ Some c → (part : ℕ) × (part_of t s.relations statement ≡ Some part)
has_part s t statement c is ties e =
    let label = has_label s t c ties (there s c is (of_statement s.relations statement c e)) in
    (label.0, part_at s t statement c e ∙ label.1)

-- a statement that has a part is about an entity, which has that part
pub record IsAboutPart (t : Labelling) (relations : List Relation) (statement : Statement) (part : ℕ) : Type 0 where
  pub about : Cell
  pub is_about : cell_of relations statement ≡ Some about
  pub has : label_of t about ≡ Some part

pub about_part : (t : Labelling) (relations : List Relation) (statement : Statement) (part : ℕ)
    → part_of t relations statement ≡ Some part → IsAboutPart t relations statement part
about_part t relations statement part e = by (cell_of relations statement) refl e
  where
    by : (o : Option Cell) → cell_of relations statement ≡ o → label_at t o ≡ Some part → IsAboutPart t relations statement part
    by None is e = absurd (none-some part e)
    by (Some c) is e = record { about = c; is_about = is; has = e }
