-- The rows of an entity of what is numbered.
use Rattle.std.proofs.Common.{◌≡◌, ◌<◌, ◌≤◌, ℕ, Bool, List, Some, None, length, slice_get, get_or, ap, ◌∙◌, refl, ⊎_elim, arith}
use Rattle.std.proofs.lemmas.Option.{slice_get_cases}
use Rattle.currency_base.specs.declared.ids.AttrId.{AttrId}
use Rattle.currency_base.specs.declared.ids.RelId.{RelId}
use Rattle.currency_base.specs.declared.ids.RowId.{RowId}
use Rattle.entity_lists.specs.Lists.{entities_of, rows_of}
use Rattle.entity_lists.proofs.Facts.{member_of, rows_once}
use Rattle.order_literals.specs.Numbers.{Numbered, Numbers, numbered, numbers_of}
use Rattle.order_literals.specs.Statements.{statements_of}
use Rattle.order_literals.specs.declared.wanted.Wanted.{Wanted}
use Rattle.order_literals.proofs.Callers.{table_at}
use Rattle.spec_model.specs.declared.relation.Relation.{Relation}
use Rattle.completion_build.specs.Contests.{Contest, IsListOf, IsContest}
use Rattle.completion_build.specs.Places.{contest_of}
use Rattle.completion_build.specs.Sources.{Source, IsSource}

pub is_contest : (numbers : Numbers) (truths : List Bool) (rel : RelId) (attr : AttrId) (ent : ℕ) (rows : List RowId)
    → IsListOf numbers truths rel.0 attr.0 ent
    → ((table : Numbered) → slice_get numbers.tables rel.0 ≡ Some table → rows ≡ rows_of table.rows.entities ent)
    → IsContest (record { numbers = numbers; truths = truths; rel = rel; attr = attr; rows = rows })
is_contest numbers truths rel attr ent rows of is =
    let here : rows ≡ rows_of of.table.rows.entities ent = is of.table of.is_table in
    record {
      per_statement = of.per_statement;
      pairs = λ i j t u at_i at_j differ.
          let at_i' : slice_get (rows_of of.table.rows.entities ent) i ≡ Some t = rw here at at_i in
          let at_j' : slice_get (rows_of of.table.rows.entities ent) j ≡ Some u = rw here at at_j in
          record {
            table = of.table;
            is_table = of.is_table;
            attr_within = of.attr_within;
            ent = ent;
            first_of = member_of of.table.rows.entities ent i t at_i';
            second_of = member_of of.table.rows.entities ent j u at_j';
            differ = λ same.
                let at_i'' : slice_get (rows_of of.table.rows.entities ent) i ≡ Some u = at_i' ∙ ap Some same in
                differ (rows_once of.table.rows.entities ent i j u at_i'' at_j');
          };
    }

-- the relation of a number
pub relation_at : (relations : List Relation) (rel : ℕ) → rel < length relations → (r : Relation) ×
    (slice_get relations rel ≡ Some r)
relation_at relations rel below =
    ⊎_elim
    (λ (w : (r : Relation) × (rel < length relations) × (slice_get relations rel ≡ Some r) × (get_or relations rel r ≡ r)). (w.0, w.2))
    (λ (w : (length relations ≤ rel) × (slice_get relations rel ≡ None)). absurd (omega (arith, w.0)))
    (slice_get_cases relations rel).1

-- a list at a place of what a completion is built from
pub is_list_of : (s : Source) (rel attr ent : ℕ) → IsSource s → rel < length s.relations
    → ((r : Relation) → slice_get s.relations rel ≡ Some r → attr < length r.attrs)
    → ((r : Relation) → slice_get s.relations rel ≡ Some r → ent < length r.entities) → IsListOf s.numbers s.truths rel attr ent
is_list_of s rel attr ent is below attr_within ent_within =
    let here = relation_at s.relations rel below in
    let t = is.tables rel here.0 here.1 in
    record {
      per_statement = is.per_statement;
      table = t.table;
      is_table = t.is_table;
      attr_within = rw t.attrs_are (attr_within here.0 here.1);
      ent_within = rw t.count_is (ent_within here.0 here.1);
    }

same_contest : (c : Contest) (numbers : Numbers) (truths : List Bool) (rel : RelId) (attr : AttrId)
    (rows : List RowId) → c.numbers ≡ numbers → c.truths ≡ truths
    → c.rel ≡ rel → c.attr ≡ attr → c.rows ≡ rows → c ≡ record {
      numbers = numbers;
      truths = truths;
      rel =
          rel;
      attr = attr;
      rows = rows;
    }
same_contest c numbers truths rel attr rows e f g h k = rw (← e, ← f, ← g, ← h, ← k) refl

-- the contest that is made there
pub contest_is : (s : Source) (c : Contest) (rel : RelId) (attr : AttrId) (ent : ℕ) (r : Relation) → IsSource s
    → slice_get s.relations rel.0 ≡ Some r
    → c.numbers ≡ s.numbers → c.truths ≡ s.truths → c.rel ≡ rel → c.attr ≡ attr
    → ((table : Numbered) → slice_get s.numbers.tables rel.0 ≡ Some table → c.rows ≡ rows_of table.rows.entities ent)
    → c ≡ contest_of s.numbers s.truths rel attr r ent
contest_is s c rel attr ent r is at numbers_are truths_are rel_is attr_is rows_are =
    let t = is.tables rel.0 r at in
    same_contest c s.numbers s.truths rel attr (rows_of (entities_of r.rows) ent) numbers_are truths_are rel_is attr_is
    (rows_are t.table t.is_table ∙ ap (λ (es : List ℕ). rows_of es ent) t.entities_are)

-- what is numbered of a specification is of its relations
pub is_source : (relations : List Relation) (wanted : Wanted) (numbers : Numbers) (truths : List Bool)
    → numbers ≡ numbers_of relations wanted
    → length truths ≡ length (statements_of numbers)
    → IsSource (record { relations = relations; numbers = numbers; truths = truths })
is_source relations wanted numbers truths same per = record {
  per_statement = per;
  tables = λ rel r at. record {
    table = numbered wanted.currents rel r;
    is_table = ap (λ (n : Numbers). slice_get n.tables rel) same ∙ table_at wanted.currents relations rel r at;
    attrs_are = refl;
    count_is = refl;
    entities_are = refl;
  };
}
