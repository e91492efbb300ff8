-- The grounds as they are listed, entity by entity, are exactly the grounds.
use Rattle.std.proofs.Common.{◌≡◌, ◌+◌, ◌-◌, ◌<◌, inl, inr, ℕ, true, List, [], ◌∷◌, length, Some, slice_get, refl, sym, ap, ◌∙◌, arith}
use Rattle.std.specs.List.{range_with_len, All}
use Rattle.std.proofs.lemmas.List.Elements.{All-nil, All-cons, All-head, All-weaker}
use Rattle.std.proofs.lemmas.Option.{same_Some}
use Rattle.currency_base.specs.declared.ids.RowId.{RowId}
use Rattle.currency_base.specs.declared.row.Row.{Row}
use Rattle.denial_rules.specs.declared.rule.Rule.{Rule}
use Rattle.entity_lists.specs.Lists.{entities_of, rows_of}
use Rattle.partial_orders.specs.Pairs.{entity_of}
use Rattle.spec_model.specs.declared.relation.Relation.{Relation}
use Rattle.entity_ground.specs.Grounds.{choices, has_instance, grounds_among, grounds_of, IsGround, AreGrounds}
use Rattle.entity_ground.proofs.Among.{Among, to_contains, only_once, in_flat, of_flat, apart_flat, in_filter, of_filter, apart_filter, in_range, apart_range}
use Rattle.entity_ground.proofs.Members.{of_rows, in_rows, apart_rows, entity_at_place, entity_below, in_choices, of_choices, apart_choices}

all_among : {A : Type 0} (P : A → Type 0) (xs : List A) → ((x : A) → Among xs x → P x) → All P xs
all_among P [] each = All-nil P
all_among P (x ∷ xs) each = All-cons P x xs (each x (inl refl)) (all_among P xs (λ y is. each y (inr is)))

-- the rows of an entity are those that stand for it
member_of : (table : List Row) (ent : ℕ) (row : RowId) → Among (rows_of (entities_of table) ent) row
    → entity_of table row.0 ≡ Some ent
member_of table ent row is =
    let at = of_rows 0 (entities_of table) ent row is in
    let same : row.0 - 0 ≡ row.0 = omega arith in
    sym (entity_at_place table row.0) ∙ ap (λ i. slice_get (entities_of table) i) (sym same) ∙ at.1

is_member : (table : List Row) (ent : ℕ) (row : RowId) → entity_of table row.0 ≡ Some ent
    → Among (rows_of (entities_of table) ent) row
is_member table ent row is =
    let same : 0 + row.0 ≡ row.0 = omega arith in
    rw same at (in_rows 0 (entities_of table) ent row.0 (entity_at_place table row.0 ∙ is))

-- what is listed of one entity is a choice of its rows, for which there is an instance
pub record IsOfEntity (rule : Rule) (table : List Row) (ent : ℕ) (rows : List RowId) : Type 0 where
  pub one_each : length rows ≡ rule.vars
  pub of_entity : All (λ row. entity_of table row.0 ≡ Some ent) rows
  pub instance : has_instance rule table rows ≡ true

of_entity : (rule : Rule) (table : List Row) (ent : ℕ) (rows : List RowId)
    → Among (grounds_among rule table (rows_of (entities_of table) ent)) rows
    → IsOfEntity rule table ent rows
of_entity rule table ent rows is =
    let members = rows_of (entities_of table) ent in
    let passed = of_filter (has_instance rule table) (choices rule.vars members) rows is in
    let choice = of_choices rule.vars members rows passed.0 in
    record {
      one_each = choice.0;
      of_entity = All-weaker (Among members) (λ row. entity_of table row.0 ≡ Some ent)
          (λ row among. member_of table ent row among) rows choice.1;
      instance = passed.1;
    }

is_of_entity : (rule : Rule) (table : List Row) (ent : ℕ) (rows : List RowId) → IsOfEntity rule table ent rows
    → Among (grounds_among rule table (rows_of (entities_of table) ent)) rows
is_of_entity rule table ent rows is =
    let members = rows_of (entities_of table) ent in
    let among = All-weaker (λ row. entity_of table row.0 ≡ Some ent) (Among members)
    (λ row at. is_member table ent row at) rows is.of_entity in
    let choice : Among (choices rule.vars members) rows = rw is.one_each at (in_choices members rows among) in
    in_filter (has_instance rule table) (choices rule.vars members) rows choice is.instance

-- a choice of at least one row is of one entity alone
one_entity : (table : List Row) (vars : ℕ) (rows : List RowId) (ent other : ℕ) → 0 < vars → length rows ≡ vars
    → All (λ row. entity_of table row.0 ≡ Some ent) rows → All (λ row. entity_of table row.0 ≡ Some other) rows → ent ≡ other
one_entity table vars [] ent other some count one two = absurd (omega (arith, count))
one_entity table vars (row ∷ rows) ent other some count one two =
    same_Some ent other (sym (All-head (λ row. entity_of table row.0 ≡ Some ent) row rows one)
    ∙ All-head (λ row. entity_of table row.0 ≡ Some other) row rows two)

-- its entity is one of the relation's
known_entity : (table : List Row) (n vars : ℕ) (rows : List RowId) (ent : ℕ) → All (λ row. row.entity.0 < n) table
    → 0 < vars → length rows ≡ vars
    → All (λ row. entity_of table row.0 ≡ Some ent) rows → ent < n
known_entity table n vars [] ent below some count of = absurd (omega (arith, count))
known_entity table n vars (row ∷ rows) ent below some count of = entity_below table n row.0 ent below
    (All-head (λ row. entity_of table row.0 ≡ Some ent) row rows of)

-- exactly the grounds, each once
pub listed_exactly : (rule : Rule) (r : Relation) → 0 < rule.vars → All (λ row. row.entity.0 < length r.entities)
    r.rows → AreGrounds rule r.rows (grounds_of rule r)
listed_exactly rule r some below =
    let count = length r.entities in
    let make : ℕ → List (List RowId) = λ ent. grounds_among rule r.rows (rows_of (entities_of r.rows) ent) in
    record {
      each = all_among (IsGround rule r.rows) (grounds_of rule r) (λ rows is.
          let made = of_flat make (range_with_len 0 count) rows is in
          let of = of_entity rule r.rows made.item rows made.makes in
          record {
            choice = record { one_each = of.one_each; ent = made.item; of_entity = of.of_entity };
            instance =
                of.instance;
          });
      all = λ rows is.
          let ent = is.choice.ent in
          let known = known_entity r.rows count rule.vars rows ent below some is.choice.one_each is.choice.of_entity in
          let of : IsOfEntity rule r.rows ent rows = record {
            one_each = is.choice.one_each;
            of_entity =
                is.choice.of_entity;
            instance = is.instance;
          } in
          to_contains (grounds_of rule r) rows
          (in_flat make (range_with_len 0 count) ent rows (in_range 0 count ent (omega arith) (omega (arith, known)))
          (is_of_entity rule r.rows ent rows of));
      once = only_once (grounds_of rule r)
          (apart_flat make (range_with_len 0 count) (apart_range 0 count)
          (λ ent is. apart_filter (has_instance rule r.rows) (choices rule.vars (rows_of (entities_of r.rows) ent))
          (apart_choices rule.vars (rows_of (entities_of r.rows) ent) (apart_rows 0 (entities_of r.rows) ent)))
          (λ ent other rows a b.
          let one = of_entity rule r.rows ent rows a in
          let two = of_entity rule r.rows other rows b in
          one_entity r.rows rule.vars rows ent other some one.one_each one.of_entity two.of_entity));
    }
