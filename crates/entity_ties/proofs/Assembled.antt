-- The parts by relation, out of the labels by number.
use Rattle.std.proofs.Common.{◌≡◌, ◌<◌, ◌≤◌, ◌⊎◌, ◌∙◌, ◌+◌, ◌-◌, ℕ, List, Contains, Some, length, map, drop, slice_get, slice_index, slice_range, sym, ap, inl, inr, arith, length-drop}
use Rattle.std.proofs.lemmas.Bool.{cases_lt}
use Rattle.std.proofs.lemmas.List.{get_or-take, get_or-drop, length-take-le}
use Rattle.std.proofs.lemmas.Option.{slice_get_within, slice_get-get_or}
use Rattle.entity_lists.specs.Lists.{Grouping}
use Rattle.spec_model.specs.Facts.{AreRelations}
use Rattle.spec_model.specs.Spec.{Spec}
use Rattle.spec_model.specs.declared.relation.Relation.{Relation}
use Rattle.part_laws.proofs.Rows.{there}
use Rattle.part_laws.proofs.Listed.{list_below}
use Rattle.entity_ties.specs.declared.cells.Member.{Member}
use Rattle.entity_ties.specs.Labels.{AreCellLabels, AreTies, IsBefore, cell, grouping_of}
use Rattle.entity_ties.specs.Links.{number}
use Rattle.entity_ties.specs.Numbers.{AreNumbered}
use Rattle.entity_ties.specs.Parts.{AreCut, AreHeld, ArePartsOf, list_at}
use Rattle.entity_ties.specs.Tied.{Cell, IsCell}
use Rattle.entity_ties.proofs.TiedCells.{cell_at}

-- ---- a range of a list

pub cut_length : {A : Type 0} (xs : List A) (a n : ℕ) → a + n ≤ length xs → length (slice_range xs a (a + n)) ≡ n
cut_length xs a n fits =
    let enough : a + n - a ≤ length (drop a xs) = omega (arith, length-drop a xs) in
    length-take-le (a + n - a) (drop a xs) enough ∙ omega arith

pub cut_at : {A : Type 0} (xs : List A) (a n i : ℕ) → a + n ≤ length xs → i < n
    → slice_get (slice_range xs a (a + n)) i ≡ slice_get xs (a + i)
cut_at xs a n i fits below =
    let inside : a + i < length xs = omega arith in
    let x = there xs (a + i) inside in
    let long : i < length (slice_range xs a (a + n)) = omega (arith, cut_length xs a n fits) in
    slice_get-get_or (slice_range xs a (a + n)) i x.0 long
    ∙ (ap Some (get_or-take (a + n - a) (drop a xs) i x.0 (omega arith) ∙ get_or-drop a xs i x.0)
    ∙ sym (slice_get-get_or xs (a + i) x.0 inside))

module _ (s : Spec) (firsts labels : List ℕ) (members : List Member) (count : ℕ) (lists : List (List ℕ))
    (facts : AreRelations s.relations)
    (are : AreNumbered s.relations (length s.relations) firsts members) (labelled : AreCellLabels s firsts members labels count)
    (cut : AreCut s.relations (length s.relations) firsts labels lists) where
  room : (rel : ℕ) (r : Relation) → slice_get s.relations rel ≡ Some r → slice_index firsts rel + length r.entities ≤
      length labels
  room rel r at = omega (arith, are.fit rel r (slice_get_within s.relations rel r at) at, labelled.many)

  pub per_entity : (rel : ℕ) (r : Relation) → slice_get s.relations rel ≡ Some r → length (list_at lists rel) ≡ length r.entities
  per_entity rel r at =
      ap length (cut.each rel r (slice_get_within s.relations rel r at) at) ∙ cut_length labels
      (slice_index firsts rel) (length r.entities) (room rel r at)

  -- the label of an entity is that of its number
  pub by_number : (a : Cell) → IsCell s a → slice_get (list_at lists a.rel) a.ent ≡ slice_get labels (number firsts a)
  by_number a is =
      let inside = slice_get_within s.relations a.rel is.relation is.is_relation in
      ap (λ (l : List ℕ). slice_get l a.ent) (cut.each a.rel is.relation inside is.is_relation)
      ∙ cut_at labels (slice_index firsts a.rel) (length is.relation.entities) a.ent
      (room a.rel is.relation is.is_relation) is.within

  -- what has a label is there
  pub cell_there : (a : Cell) (n : ℕ) → slice_get (list_at lists a.rel) a.ent ≡ Some n → IsCell s a
  cell_there a n at =
      let inside : a.rel < length s.relations = omega (arith, list_below lists a.rel a.ent n at, cut.many) in
      let r = there s.relations a.rel inside in
      record {
        relation = r.0;
        is_relation = r.1;
        within = omega (arith, slice_get_within (list_at lists a.rel) a.ent n at, per_entity a.rel r.0 r.1);
      }

  pub label_at : (a : Cell) (n : ℕ) → slice_get (list_at lists a.rel) a.ent ≡ Some n → slice_get labels (number firsts a) ≡ Some n
  label_at a n at = sym (by_number a (cell_there a n at)) ∙ at

  -- the entity of a number that has a label
  record HasCell (x n : ℕ) : Type 0 where
    a : Cell
    is_cell : IsCell s a
    at : number firsts a ≡ x
    label : slice_get (list_at lists a.rel) a.ent ≡ Some n

  cell_of : (x n : ℕ) → slice_get labels x ≡ Some n → HasCell x n
  cell_of x n at =
      let m = there members x (omega (arith, slice_get_within labels x n at, labelled.many)) in
      let back = are.back x m.0 m.1 in
      let is : IsCell s (cell m.0.rel.0 m.0.ent.0) = record {
        relation = back.relation;
        is_relation =
            back.is_relation;
        within = back.within;
      } in
      record {
        a = cell m.0.rel.0 m.0.ent.0;
        is_cell = is;
        at = back.is_number;
        label = by_number (cell m.0.rel.0 m.0.ent.0) is ∙ (ap (slice_get labels) back.is_number ∙ at);
      }

  -- numbers are in the order of the entities
  in_order : (a b : Cell) → IsCell s a → IsCell s b → number firsts a < number firsts b → IsBefore a b
  in_order a b is_a is_b less = by (cases_lt a.rel b.rel) (cases_lt b.rel a.rel)
    where
      by : (a.rel < b.rel) ⊎ (b.rel ≤ a.rel) → (b.rel < a.rel) ⊎ (a.rel ≤ b.rel) → IsBefore a b
      by (inl low) other = record { order = inl low }
      by (inr high) (inl low) =
          let inside = slice_get_within s.relations a.rel is_a.relation is_a.is_relation in
          absurd (omega (arith, less, are.apart b.rel a.rel is_b.relation low inside is_b.is_relation, is_b.within))
      by (inr high) (inr low) =
          let e : a.rel ≡ b.rel = omega (arith, high, low) in
          record { order = inr (e, omega (arith, less, ap (slice_index firsts) e)) }

  pub assembled : (groups : List Grouping) → groups ≡ map grouping_of s.relations
      → AreTies s (record { labels = lists; count = count; groups = groups })
  assembled groups groups_are = record {
    per_relation = cut.many;
    per_entity = per_entity;
    tied = λ a b is_a is_b.
        (let t = labelled.tied a b is_a is_b in
        (λ e. t.0 (sym (by_number a is_a) ∙ (e ∙ by_number b is_b)), λ h. by_number a is_a ∙ (t.1 h ∙ sym (by_number b is_b))));
    below = λ a n at. labelled.below (number firsts a) n (label_at a n at);
    used = λ n low. (let x = labelled.used n low in let h = cell_of x.0 n x.1 in (h.a, h.label));
    first = λ n m b less at.
        (let x = labelled.first n m (number firsts b) less (label_at b m at) in
        let h = cell_of x.0 n x.2 in
        (h.a, in_order h.a b h.is_cell (cell_there b m at) (omega (arith, h.at, x.1)), h.label));
    groups = groups_are;
  }

  pub held : (parts : List (List Member)) → ArePartsOf members labels count parts → AreHeld lists parts
  held parts of = record { each = each; only = only }
    where
      each : (label : ℕ) (m : Member) → slice_get (list_at lists m.rel.0) m.ent.0 ≡ Some label → Contains (list_at parts label) m
      each label m at =
          let a = cell m.rel.0 m.ent.0 in
          of.each label m (record {
            number = number firsts a;
            is_member = cell_at s firsts members facts are a (cell_there a label at);
            is_label = label_at a label at;
          })

      only : (label : ℕ) (m : Member) → Contains (list_at parts label) m → slice_get (list_at lists m.rel.0) m.ent.0 ≡ Some label
      only label m c =
          let is = of.only label m c in
          let back = are.back is.number m is.is_member in
          let there : IsCell s (cell m.rel.0 m.ent.0) = record {
            relation = back.relation;
            is_relation =
                back.is_relation;
            within = back.within;
          } in
          by_number (cell m.rel.0 m.ent.0) there ∙ (ap (slice_get labels) back.is_number ∙ is.is_label)
