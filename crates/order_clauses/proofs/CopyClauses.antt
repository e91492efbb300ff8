-- The axioms of copy functions.
use Rattle.std.proofs.Common.{◌≡◌, ◌∙◌, ◌<◌, ℕ, List, [], ◌∷◌, All, Some, None, length, slice_get, refl, sym, ap, subst, arith}
use Rattle.std.proofs.lemmas.List.{length-map}
use Rattle.std.proofs.lemmas.List.Elements.{All-weaker}
use Rattle.std.proofs.lemmas.Option.{same_Some, none-some, slice_get_within, get_or_from_slice_get}
use Rattle.currency_base.specs.declared.ids.CopyId.{CopyId}
use Rattle.currency_base.specs.declared.ids.RowId.{RowId}
use Rattle.currency_base.specs.declared.lit.Lit.{Lit}
use Rattle.currency_base.specs.declared.value.ValueKind.{ValueKind}
use Rattle.copied_pairs.specs.Copied.{IsCopiedPair}
use Rattle.copied_pairs.specs.declared.pairs.CopiedPair.{CopiedPair}
use Rattle.copy_functions.specs.Copies.{CopyFunction, source_at}
use Rattle.copy_functions.specs.declared.place.Place.{Place}
use Rattle.entity_ground.specs.Grounds.{AreCopyGrounds}
use Rattle.spec_model.specs.Facts.{AreCopies, IsCopyAmong, IsPlaceBetween, kinds_of}
use Rattle.spec_model.specs.Spec.{Spec}
use Rattle.spec_model.specs.declared.relation.Relation.{Relation}
use Rattle.refutation_log.specs.declared.step.Label.TheVariants as label
use Rattle.refutation_log.specs.declared.step.Step.{Step}
use Rattle.order_literals.specs.Axioms.{AreTwo}
use Rattle.order_literals.specs.Said.{Said, Says, before, not_before}
use Rattle.order_clauses.specs.Added.{Adds, IsClauseOf}
use Rattle.order_clauses.specs.Listing.{copy_in, copy_at}
use Rattle.order_clauses.specs.Subject.{Subject, variables, IsCopiedBy, IsPairIn}
use Rattle.order_clauses.proofs.Reading.{all_at}

-- two rows that were copied together by this copy function
pub record IsCopiedAs (s : Spec) (copy : CopyFunction) (p : CopiedPair) : Type 0 where
  pub target : Relation
  pub source : Relation
  pub is_target : slice_get s.relations copy.target.0 ≡ Some target
  pub is_source : slice_get s.relations copy.source.0 ≡ Some source
  pub places : All (IsPlaceBetween target source) copy.places
  pub pair : IsCopiedPair copy target.rows source.rows p

pub copied_as : (s : Spec) (k : ℕ) (p : CopiedPair) (copy : CopyFunction) → IsCopiedBy s k p → slice_get s.copies k ≡ Some copy
    → IsCopiedAs s copy p
copied_as s k p copy by at = subst (λ (c : CopyFunction). IsCopiedAs s c p) (same_Some by.copy copy (sym by.is_copy ∙ at))
    (let r : IsCopiedAs s by.copy p = record {
      target = by.target;
      source = by.source;
      is_target = by.is_target;
      is_source = by.is_source;
      places = by.places;
      pair = by.pair;
    } in r)

-- both rows are mapped
pub first_mapped : (s : Spec) (copy : CopyFunction) (p : CopiedPair) → IsCopiedAs s copy p → source_at copy p.first ≡ None → ⊥
first_mapped s copy p of none = none-some of.pair.together.first_source (sym none ∙ of.pair.together.first_is)

pub second_mapped : (s : Spec) (copy : CopyFunction) (p : CopiedPair) → IsCopiedAs s copy p → source_at copy p.second ≡ None → ⊥
second_mapped s copy p of none = none-some of.pair.together.second_source (sym none ∙ of.pair.together.second_is)

attr_of : (r : Relation) (attr : ℕ) (kind : ValueKind) → slice_get (kinds_of r) attr ≡ Some kind → attr < length r.attrs
attr_of r attr kind at =
    let many = length-map r.attrs (λ x. x.kind) in
    let within = slice_get_within (kinds_of r) attr kind at in
    omega (arith, many, within)

-- at a place they are a pair, and so are their sources
pub targets_in : (s : Spec) (copy : CopyFunction) (p : CopiedPair) (place : ℕ) (at : Place) → IsCopiedAs s copy p
    → slice_get copy.places place ≡ Some at → IsPairIn s copy.target at.target p.first p.second
targets_in s copy p place at of is_place =
    let between = all_at (IsPlaceBetween of.target of.source) copy.places place at of.places is_place in
    let t = of.pair.together in
    record {
      relation = of.target;
      is_relation = of.is_target;
      attr_within = attr_of of.target at.target.0 between.kind between.in_target;
      two = record { ent = t.ent; a_of = t.first_of; b_of = t.second_of; differ = of.pair.differ };
    }

sources_are : (s : Spec) (copy : CopyFunction) (p : CopiedPair) (place : ℕ) (at : Place) (of : IsCopiedAs s copy p)
    → slice_get copy.places place ≡ Some at
    → IsPairIn s copy.source at.source of.pair.together.first_source of.pair.together.second_source
sources_are s copy p place at of is_place =
    let between = all_at (IsPlaceBetween of.target of.source) copy.places place at of.places is_place in
    let t = of.pair.together in
    record {
      relation = of.source;
      is_relation = of.is_source;
      attr_within = attr_of of.source at.source.0 between.kind between.in_source;
      two = record { ent = t.source_ent; a_of = t.first_source_of; b_of = t.second_source_of; differ = of.pair.sources_differ };
    }

pub sources_in : (s : Spec) (copy : CopyFunction) (p : CopiedPair) (place : ℕ) (at : Place) (f g : RowId) → IsCopiedAs s copy p
    → slice_get copy.places place ≡ Some at
    → source_at copy p.first ≡ Some f → source_at copy p.second ≡ Some g → IsPairIn s copy.source at.source f g
sources_in s copy p place at f g of is_place from_f from_g =
    let t = of.pair.together in
    let first : t.first_source ≡ f = same_Some t.first_source f (sym t.first_is ∙ from_f) in
    let second : t.second_source ≡ g = same_Some t.second_source g (sym t.second_is ∙ from_g) in
    subst (λ (x : RowId). IsPairIn s copy.source at.source x g) first
    (subst (λ (y : RowId). IsPairIn s copy.source at.source t.first_source y) second (sources_are s copy p place at of is_place))

pub copy_clause : (s : Subject) (k : CopyId) (place : ℕ) (p : CopiedPair) (copy : CopyFunction) (at : Place)
    (f g : RowId) (a b : Lit) → IsCopiedBy s.spec k.0 p
    → slice_get s.spec.copies k.0 ≡ Some copy → slice_get copy.places place ≡ Some at → source_at copy p.first ≡ Some
    f → source_at copy p.second ≡ Some g
    → Says (variables s) a (not_before copy.source at.source f g)
    → Says (variables s) b (before copy.target at.target p.first p.second)
    → IsClauseOf s (label.Copy k place p.first p.second) (a ∷ b ∷ [])
copy_clause s k place p copy at f g a b by is_copy is_place from_f from_g says_a says_b =
    let same : copy ≡ by.copy = same_Some copy by.copy (sym is_copy ∙ by.is_copy) in
    let together = by.pair.together in
    let first : f ≡ together.first_source = same_Some f together.first_source
    (sym from_f ∙ (ap (λ (c : CopyFunction). source_at c p.first) same ∙ together.first_is)) in
    let second : g ≡ together.second_source = same_Some g together.second_source
    (sym from_g ∙ (ap (λ (c : CopyFunction). source_at c p.second) same ∙ together.second_is)) in
    let sources : AreTwo by.source.rows f g = subst (λ (x : RowId). AreTwo by.source.rows x g) (sym first)
    (subst (λ (y : RowId). AreTwo by.source.rows together.first_source y) (sym second)
    (let r : AreTwo by.source.rows together.first_source together.second_source = record {
      ent = together.source_ent;
      a_of = together.first_source_of;
      b_of = together.second_source_of;
      differ = by.pair.sources_differ;
    } in r)) in
    let clause : List Said = not_before copy.source at.source f g ∷ before copy.target at.target p.first p.second ∷ [] in
    record {
      clause = clause;
      is_axiom = (
        copy,
        is_copy,
        record {
          target = by.target;
          source = by.source;
          is_target = ap (λ (c : CopyFunction). slice_get s.spec.relations c.target.0) same ∙ by.is_target;
          is_source = ap (λ (c : CopyFunction). slice_get s.spec.relations c.source.0) same ∙ by.is_source;
          at = at;
          is_place = is_place;
          first_source = f;
          second_source = g;
          first_from = from_f;
          second_from = from_g;
          targets = record { ent = together.ent; a_of = together.first_of; b_of = together.second_of; differ = by.pair.differ };
          sources = sources;
          clause_is = refl;
        },
      );
      say = (says_a, (says_b, tt));
    }

pub copy_at_is : (s : Subject) (grounds : List (List CopiedPair)) (k : CopyId) (pairs : List CopiedPair)
    (a b : List Step) → slice_get grounds k.0 ≡ Some pairs
    → Adds s (copy_in k pairs (slice_get s.spec.copies k.0)) a b → Adds s (copy_at s.spec grounds k.0) a b
unfolding copy_at
copy_at_is s grounds k pairs a b at adds = rw (get_or_from_slice_get grounds k.0 pairs [] at) adds

pub all_copied : (s : Spec) (grounds : List (List CopiedPair)) (k : ℕ) (copy : CopyFunction)
    (pairs : List CopiedPair) → AreCopies s.relations s.copies → AreCopyGrounds s grounds
    → slice_get s.copies k ≡ Some copy → slice_get grounds k ≡ Some pairs → All (IsCopiedBy s k) pairs
all_copied s grounds k copy pairs are of at at_pairs =
    let is = all_at (IsCopyAmong s.relations) s.copies k copy are.each at in
    let each = (of.exact k copy is.target is.source pairs at is.is_target is.is_source at_pairs).each in
    All-weaker (IsCopiedPair copy is.target.rows is.source.rows) (IsCopiedBy s k) (λ p h. let r : IsCopiedBy s k p = record {
      copy = copy;
      is_copy = at;
      target = is.target;
      source = is.source;
      is_target = is.is_target;
      is_source = is.is_source;
      places = is.places;
      pair = h;
    } in r) pairs each
