-- A forced pair is of an attribute that is there, and of two rows of one entity.
use Rattle.std.proofs.Common.{◌≡◌, ◌∙◌, ◌<◌, ℕ, zero, suc, List, [], ◌∷◌, Some, length, slice_get, refl, sym, subst, arith}
use Rattle.std.proofs.lemmas.List.{length-map}
use Rattle.std.proofs.lemmas.List.Elements.{All-contains}
use Rattle.std.proofs.lemmas.Option.{same_Some, slice_get_within}
use Rattle.currency_base.specs.declared.ids.RowId.{RowId}
use Rattle.currency_base.specs.declared.pair.Pair.{Pair}
use Rattle.currency_base.specs.declared.row.Row.{Row}
use Rattle.currency_base.specs.declared.value.ValueKind.{ValueKind}
use Rattle.copy_functions.specs.Copies.{CopyFunction}
use Rattle.copy_functions.specs.declared.place.Place.{Place}
use Rattle.denial_rules.specs.Rules.{IsConclusion, IsAtom}
use Rattle.denial_rules.specs.declared.instance.RuleInstance.{RuleInstance}
use Rattle.denial_rules.specs.declared.rule.OrderAtom.{OrderAtom}
use Rattle.denial_rules.specs.declared.rule.Rule.{Rule}
use Rattle.entity_lists.specs.Lists.{entities_of}
use Rattle.partial_orders.specs.Pairs.{entity_of}
use Rattle.spec_model.specs.Facts.{IsSpecification, IsRelation, IsGivenPair, IsRuleOf, IsCopyAmong, IsPlaceBetween, kinds_of}
use Rattle.spec_model.specs.Spec.{Spec}
use Rattle.spec_model.specs.declared.relation.Relation.{Relation}
use Rattle.forced_closure.proofs.RowOrders.{all_at}
use Rattle.forced_closure.specs.Forced.{IsGiven, IsInstance, AreCopiedAt, IsForced, given, transitive, ruled, copied, back}

-- an attribute of a relation, and two rows of one entity
pub record IsWithin (s : Spec) (rel attr : ℕ) (earlier later : RowId) : Type 0 where
  pub relation : Relation
  pub is_relation : slice_get s.relations rel ≡ Some relation
  pub attr_within : attr < length relation.attrs
  pub ent : ℕ
  pub earlier_of : entity_of relation.rows earlier.0 ≡ Some ent
  pub later_of : entity_of relation.rows later.0 ≡ Some ent

-- a row stands for an entity
entity_in : (rows : List Row) (row : ℕ) → row < length rows → (ent : ℕ) × (entity_of rows row ≡ Some ent)
entity_in [] row within = absurd (omega arith)
entity_in (r ∷ rows) zero within = (r.entity.0, refl)
entity_in (r ∷ rows) (suc row) within = entity_in rows row (omega arith)

-- it is read in the list of the rows' entities
pub entity_read : (rows : List Row) (row ent : ℕ) → entity_of rows row ≡ Some ent → slice_get (entities_of rows) row ≡ Some ent
entity_read [] row ent e = cc
entity_read (r ∷ rows) zero ent e = e
entity_read (r ∷ rows) (suc row) ent e = entity_read rows row ent e

given_within : (s : Spec) (rel : ℕ) (p : Pair) → IsSpecification s → IsGiven s rel p → IsWithin s rel p.attr.0 p.earlier p.later
given_within s rel p facts g =
    let r = g.relation in
    let is = all_at IsRelation s.relations rel r facts.relations.each g.is_relation in
    let pair = All-contains (IsGivenPair r) r.given p is.given g.is_in in
    let of = entity_in r.rows p.earlier.0 pair.earlier in
    record {
      relation = r;
      is_relation = g.is_relation;
      attr_within = pair.attr;
      ent = of.0;
      earlier_of = of.1;
      later_of = sym pair.one_entity.1 ∙ of.1;
    }

joined_within : (s : Spec) (rel attr : ℕ) (a b d : RowId) → IsWithin s rel attr a b → IsWithin s rel attr b d
    → IsWithin s rel attr a d
joined_within s rel attr a b d one next =
    let same : next.relation ≡ one.relation = same_Some next.relation one.relation (sym next.is_relation ∙ one.is_relation) in
    let middle : entity_of one.relation.rows b.0 ≡ Some next.ent =
    subst (λ (r : Relation). entity_of r.rows b.0 ≡ Some next.ent) same next.earlier_of in
    let end : entity_of one.relation.rows d.0 ≡ Some next.ent =
    subst (λ (r : Relation). entity_of r.rows d.0 ≡ Some next.ent) same next.later_of in
    record {
      relation = one.relation;
      is_relation = one.is_relation;
      attr_within = one.attr_within;
      ent = one.ent;
      earlier_of = one.earlier_of;
      later_of = end ∙ (sym middle ∙ one.later_of);
    }

ruled_within : (s : Spec) (rule : Rule) (i : RuleInstance) (atom : OrderAtom) (earlier later : RowId) → IsSpecification s
    → IsInstance s rule i atom earlier later → IsWithin s rule.relation.0 atom.attr.0 earlier later
ruled_within s rule i atom earlier later facts n =
    let of = all_at (IsRuleOf s.relations) s.rules n.number rule facts.rules.each n.is_rule in
    let own : of.relation ≡ n.relation = same_Some of.relation n.relation (sym of.is_relation ∙ n.is_relation) in
    let fits : IsAtom rule.vars (kinds_of of.relation) atom = subst (IsConclusion rule.vars (kinds_of of.relation))
    n.concludes of.fits.conclusion in
    let within : atom.attr.0 < length (kinds_of n.relation) =
    subst (λ (r : Relation). atom.attr.0 < length (kinds_of r)) own fits.attr in
    let long = length-map n.relation.attrs (λ a. a.kind) in
    record {
      relation = n.relation;
      is_relation = n.is_relation;
      attr_within = omega (arith, long, within);
      ent = n.choice.ent;
      earlier_of = all_at (λ (row : RowId). entity_of n.relation.rows row.0 ≡ Some n.choice.ent) n.rows atom.earlier
          earlier n.choice.of_entity n.earlier_is;
      later_of = all_at (λ (row : RowId). entity_of n.relation.rows row.0 ≡ Some n.choice.ent) n.rows atom.later
          later n.choice.of_entity n.later_is;
    }

-- an attribute of a kind is there
kind_within : (r s : Relation) (attr : ℕ) (kind : ValueKind) → r ≡ s → slice_get (kinds_of r) attr ≡ Some kind
    → attr < length s.attrs
kind_within r s attr kind same at =
    let there = slice_get_within (kinds_of r) attr kind at in
    let within : attr < length (kinds_of s) = subst (λ (q : Relation). attr < length (kinds_of q)) same there in
    let long = length-map s.attrs (λ a. a.kind) in
    omega (arith, long, within)

copied_within : (s : Spec) (copy : CopyFunction) (place : Place) (first second : RowId) → IsSpecification s
    → AreCopiedAt s copy place first second
    → IsWithin s copy.target.0 place.target.0 first second
copied_within s copy place first second facts m =
    let among = all_at (IsCopyAmong s.relations) s.copies m.number copy facts.copies.each m.is_copy in
    let between = all_at (IsPlaceBetween among.target among.source) copy.places m.at place among.places m.is_place in
    let own : among.target ≡ m.target = same_Some among.target m.target (sym among.is_target ∙ m.is_target) in
    record {
      relation = m.target;
      is_relation = m.is_target;
      attr_within = kind_within among.target m.target place.target.0 between.kind own between.in_target;
      ent = m.rows.ent;
      earlier_of = m.rows.first_of;
      later_of = m.rows.second_of;
    }

sources_within : (s : Spec) (copy : CopyFunction) (place : Place) (first second : RowId) → IsSpecification s →
    (m : AreCopiedAt s copy place first second)
    → IsWithin s copy.source.0 place.source.0 m.rows.first_source m.rows.second_source
sources_within s copy place first second facts m =
    let among = all_at (IsCopyAmong s.relations) s.copies m.number copy facts.copies.each m.is_copy in
    let between = all_at (IsPlaceBetween among.target among.source) copy.places m.at place among.places m.is_place in
    let own : among.source ≡ m.source = same_Some among.source m.source (sym among.is_source ∙ m.is_source) in
    record {
      relation = m.source;
      is_relation = m.is_source;
      attr_within = kind_within among.source m.source place.source.0 between.kind own between.in_source;
      ent = m.rows.source_ent;
      earlier_of = m.rows.first_source_of;
      later_of = m.rows.second_source_of;
    }

-- each forced pair of a specification is such a one
pub forced_within : (s : Spec) → IsSpecification s → (rel attr : ℕ) (earlier later : RowId) → IsForced s rel attr earlier later
    → IsWithin s rel attr earlier later
forced_within s facts _ _ _ _ (given rel p g) = given_within s rel p facts g
forced_within s facts _ _ _ _ (transitive rel attr a b d one next) =
    joined_within s rel attr a b d (forced_within s facts rel attr a b one) (forced_within s facts rel attr b d next)
forced_within s facts _ _ _ _ (ruled rule i atom earlier later n premises) = ruled_within s rule i atom earlier later facts n
forced_within s facts _ _ _ _ (copied copy place first second m apart differ sources) = copied_within s copy place
    first second facts m
forced_within s facts _ _ _ _ (back copy place first second m apart differ targets) = sources_within s copy place
    first second facts m
