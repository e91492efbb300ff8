-- Entities are tied just where links lead between their numbers.
use Rattle.std.proofs.Common.{◌≡◌, ◌<◌, ◌∙◌, ℕ, List, All, Some, length, get_or, slice_get, refl, sym, ap, subst, arith}
use Rattle.std.proofs.lemmas.List.Elements.{Contains-get_or}
use Rattle.std.proofs.lemmas.Option.{same_Some, slice_get_within, slice_get-get_or}
use Rattle.spec_model.specs.Facts.{AreRelations, IsRelation}
use Rattle.spec_model.specs.Spec.{Spec}
use Rattle.part_laws.proofs.Rows.{all_at, entity_below}
use Rattle.entity_ties.specs.declared.cells.Member.{Member}
use Rattle.entity_ties.specs.declared.links.Link.{Link}
use Rattle.entity_ties.specs.Classes.{AreLinked, here, onward, backward, AreLabels}
use Rattle.entity_ties.specs.Labels.{AreCellLabels}
use Rattle.entity_ties.specs.Links.{number, AreLinksOf}
use Rattle.entity_ties.specs.Numbers.{AreNumbered, member}
use Rattle.entity_ties.specs.Order.{AreInOrder}
use Rattle.entity_ties.specs.Tied.{Cell, IsCell, IsCopiedFrom, AreTied, same, to_source, to_target}

-- what a copied row is of, is there
pub target_there : (s : Spec) (a b : Cell) → AreRelations s.relations → IsCopiedFrom s a b → IsCell s a
target_there s a b facts copied =
    let at : slice_get s.relations a.rel ≡ Some copied.target_relation = ap (slice_get s.relations) copied.of_target
    ∙ copied.is_target in
    record {
      relation = copied.target_relation;
      is_relation = at;
      within = entity_below copied.target_relation copied.row.0 a.ent
          (all_at IsRelation s.relations a.rel copied.target_relation facts.each at) copied.row_of;
    }

pub source_there : (s : Spec) (a b : Cell) → AreRelations s.relations → IsCopiedFrom s a b → IsCell s b
source_there s a b facts copied =
    let at : slice_get s.relations b.rel ≡ Some copied.source_relation = ap (slice_get s.relations) copied.of_source
    ∙ copied.is_source in
    record {
      relation = copied.source_relation;
      is_relation = at;
      within = entity_below copied.source_relation copied.from.0 b.ent
          (all_at IsRelation s.relations b.rel copied.source_relation facts.each at) copied.from_of;
    }

module _ (s : Spec) (firsts : List ℕ) (members : List Member) (facts : AreRelations s.relations)
    (are : AreNumbered s.relations (length s.relations) firsts members) where
  -- an entity stands at its number
  pub cell_at : (a : Cell) → IsCell s a → slice_get members (number firsts a) ≡ Some (member a.rel a.ent)
  cell_at a is = are.there a.rel is.relation (slice_get_within s.relations a.rel is.relation is.is_relation)
      is.is_relation a.ent is.within

  pub number_below : (a : Cell) → IsCell s a → number firsts a < length members
  number_below a is = slice_get_within members (number firsts a) (member a.rel a.ent) (cell_at a is)

  -- no two have one number
  pub one_cell : (a b : Cell) → IsCell s a → IsCell s b → number firsts a ≡ number firsts b → a ≡ b
  one_cell a b is_a is_b e =
      let m : member a.rel a.ent ≡ member b.rel b.ent = same_Some (member a.rel a.ent) (member b.rel b.ent)
      (sym (cell_at a is_a) ∙ (ap (slice_get members) e ∙ cell_at b is_b)) in
      ap (λ (x : Member). let cell : Cell = record { rel = x.rel.0; ent = x.ent.0 } in cell) m

  module _ (links : List Link) (link_are : AreLinksOf s firsts links) where
    pub linked_if_tied : (a b : Cell) → AreTied s a b → AreLinked links (number firsts a) (number firsts b)
    linked_if_tied a b (same _) = here (number firsts a)
    linked_if_tied a b (to_source _ c _ t copied) =
        onward (number firsts a) (number firsts c) (number firsts b) (linked_if_tied a c t) (link_are.all c b copied)
    linked_if_tied a b (to_target _ c _ t copied) =
        backward (number firsts a) (number firsts c) (number firsts b) (linked_if_tied a c t) (link_are.all b c copied)

    -- an entity that is tied with the first stands at a number
    record IsTiedAt (a : Cell) (y : ℕ) : Type 0 where
      cell : Cell
      is_cell : IsCell s cell
      at : number firsts cell ≡ y
      tied : AreTied s a cell

    tied_at : (a : Cell) → IsCell s a → (x y : ℕ) → number firsts a ≡ x → AreLinked links x y → IsTiedAt a y
    tied_at a is x y e (here _) = record { cell = a; is_cell = is; at = e; tied = same a }
    tied_at a is x y e (onward _ z _ l has) =
        let before = tied_at a is x z e l in
        let link = link_are.only (record { one = z; other = y }) has in
        let is_target = target_there s link.target link.source facts link.copied in
        let one : before.cell ≡ link.target = one_cell before.cell link.target before.is_cell is_target
        (before.at ∙ link.is_one) in
        record {
          cell = link.source;
          is_cell = source_there s link.target link.source facts link.copied;
          at = sym link.is_other;
          tied = to_source a link.target link.source (subst (AreTied s a) one before.tied) link.copied;
        }
    tied_at a is x y e (backward _ z _ l has) =
        let before = tied_at a is x z e l in
        let link = link_are.only (record { one = y; other = z }) has in
        let is_source = source_there s link.target link.source facts link.copied in
        let one : before.cell ≡ link.source = one_cell before.cell link.source before.is_cell is_source
        (before.at ∙ link.is_other) in
        record {
          cell = link.target;
          is_cell = target_there s link.target link.source facts link.copied;
          at = sym link.is_one;
          tied = to_target a link.source link.target (subst (AreTied s a) one before.tied) link.copied;
        }

    pub tied_if_linked : (a b : Cell) → IsCell s a → IsCell s b → AreLinked links (number firsts a) (number firsts b)
        → AreTied s a b
    tied_if_linked a b is_a is_b l =
        let found = tied_at a is_a (number firsts a) (number firsts b) refl l in
        subst (AreTied s a) (one_cell found.cell b found.is_cell is_b found.at) found.tied

    -- both ends of a link are numbers of entities
    pub links_within : All (λ (link : Link). (link.one < length members) × (link.other < length members)) links
    links_within k d below =
        let link = get_or links k d in
        let is = link_are.only link (Contains-get_or links k d below) in (
          omega (arith, is.is_one, number_below is.target (target_there s is.target is.source facts is.copied)),
          omega (arith, is.is_other, number_below is.source (source_there s is.target is.source facts is.copied)),
        )

    pub cell_labels : (labels new : List ℕ) (count : ℕ) → length labels ≡ length members → AreLabels links labels
        → AreInOrder labels new count
        → AreCellLabels s firsts members new count
    cell_labels labels new count many exact order = record {
      many = order.many ∙ many;
      tied = λ a b is_a is_b.
          (let in_a : number firsts a < length labels = omega (arith, many, number_below a is_a) in
          let in_b : number firsts b < length labels = omega (arith, many, number_below b is_b) in
          let by_label = exact.exact (number firsts a) (number firsts b) in_a in_b in
          let by_order = order.same (number firsts a) (number firsts b) in_a in_b in
          (λ e. tied_if_linked a b is_a is_b (by_label.0 (by_order.0 e)), λ t. by_order.1 (by_label.1 (linked_if_tied a b t))));
      below = order.below;
      used = order.used;
      first = order.first;
    }

-- labels are below how many there are
pub labels_below : (links : List Link) (labels : List ℕ) → AreLabels links labels → All (λ n. n < length labels) labels
labels_below links labels are k d below = are.within k (get_or labels k d) (slice_get-get_or labels k d below)
