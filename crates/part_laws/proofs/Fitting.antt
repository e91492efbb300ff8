-- Rules and copy functions of a specification, and of a part of it.
use Rattle.std.proofs.Common.{◌≡◌, ◌<◌, ◌∙◌, ℕ, Some, length, slice_get, sym, subst, arith}
use Rattle.std.proofs.lemmas.Option.{same_Some, slice_get_within}
use Rattle.copy_functions.specs.Copies.{CopyFunction}
use Rattle.copy_functions.specs.declared.place.Place.{Place}
use Rattle.denial_rules.specs.Rules.{IsRuleOn}
use Rattle.denial_rules.specs.declared.rule.Rule.{Rule}
use Rattle.spec_model.specs.Spec.{Spec}
use Rattle.spec_model.specs.Facts.{IsSpecification, IsRuleOf, IsCopyAmong, IsPlaceBetween, kinds_of}
use Rattle.spec_model.specs.Completion.{IsCompletion}
use Rattle.spec_model.specs.declared.relation.Relation.{Relation}
use Rattle.part_laws.proofs.Rows.{all_at, there, attr_within}
use Rattle.part_laws.proofs.Copied.{Copied, IsCopied}
use Rattle.part_laws.proofs.Cuts.{Parted, IsParted, cut_at, is_cut, listed_in}

-- ---- rules

pub rule_fits : (s : Spec) (at : ℕ) (rule : Rule) (r : Relation) → IsSpecification s → slice_get s.rules at ≡ Some rule
    → slice_get s.relations rule.relation.0 ≡ Some r → IsRuleOn (kinds_of r) rule
rule_fits s at rule r is is_rule is_relation =
    let of = all_at (IsRuleOf s.relations) s.rules at rule is.rules.each is_rule in
    subst (λ (q : Relation). IsRuleOn (kinds_of q) rule) (same_Some of.relation r (sym of.is_relation ∙ is_relation)) of.fits

-- ---- copy functions

-- the attributes of a place are there
pub record IsInside (t u : Relation) (place : Place) : Type 0 where
  pub target : place.target.0 < length t.attrs
  pub source : place.source.0 < length u.attrs

pub place_inside : (s : Spec) (at : ℕ) (copy : CopyFunction) (target source : Relation) (place_at : ℕ)
    (place : Place) → IsSpecification s
    → slice_get s.copies at ≡ Some copy → slice_get s.relations copy.target.0 ≡ Some target
    → slice_get s.relations copy.source.0 ≡ Some source
    → slice_get copy.places place_at ≡ Some place → IsInside target source place
place_inside s at copy target source place_at place is is_copy is_target is_source is_place =
    let among = all_at (IsCopyAmong s.relations) s.copies at copy is.copies.each is_copy in
    let between = all_at (IsPlaceBetween among.target among.source) copy.places place_at place among.places is_place in
    let t : among.target ≡ target = same_Some among.target target (sym among.is_target ∙ is_target) in
    let u : among.source ≡ source = same_Some among.source source (sym among.is_source ∙ is_source) in
    record {
      target = subst (λ (q : Relation). place.target.0 < length q.attrs) t
          (attr_within among.target place.target.0
          (slice_get_within (kinds_of among.target) place.target.0 between.kind between.in_target));
      source = subst (λ (q : Relation). place.source.0 < length q.attrs) u
          (attr_within among.source place.source.0
          (slice_get_within (kinds_of among.source) place.source.0 between.kind between.in_source));
    }

-- each copy function has a part, and each part is one of a copy function
pub copy_part_there : (p : Parted) (at : ℕ) (copy : CopyFunction) → IsParted p → slice_get p.s.copies at ≡ Some copy
    → (new : CopyFunction) × (slice_get p.part.copies at ≡ Some new)
copy_part_there p at copy is is_copy =
    there p.part.copies at (let below = slice_get_within p.s.copies at copy is_copy in omega (arith, below, is.of.per_copy))

pub copy_there : (p : Parted) (at : ℕ) (new : CopyFunction) → IsParted p → slice_get p.part.copies at ≡ Some new
    → (copy : CopyFunction) × (slice_get p.s.copies at ≡ Some copy)
copy_there p at new is is_new =
    there p.s.copies at (let below = slice_get_within p.part.copies at new is_new in omega (arith, below, is.of.per_copy))

-- a copy function of both, and its relations of both
abbrev pub copied_at : Parted → CopyFunction → CopyFunction → Relation → Relation → Relation → Relation → Copied
copied_at p copy new target new_target source new_source =
    record {
      copy = copy;
      part = new;
      target = cut_at p copy.target.0 target new_target;
      source =
          cut_at p copy.source.0 source new_source;
    }

pub is_copied : (p : Parted) (at : ℕ) (copy new : CopyFunction) (t new_t u new_u : Relation) → IsParted p
    → IsCompletion p.s.relations p.c
    → slice_get p.s.copies at ≡ Some copy → slice_get p.part.copies at ≡ Some new
    → slice_get p.s.relations copy.target.0 ≡ Some t → slice_get p.part.relations copy.target.0 ≡ Some new_t
    → slice_get p.s.relations copy.source.0 ≡ Some u → slice_get p.part.relations copy.source.0 ≡ Some new_u
    → IsCopied (copied_at p copy new t new_t u new_u)
is_copied p at copy new t new_t u new_u is completion is_copy is_new is_t is_new_t is_u is_new_u = record {
  of = is.of.copies at copy new is_copy is_new;
  target = is_cut p copy.target.0 t new_t is is_t is_new_t;
  source = is_cut p copy.source.0 u new_u is is_u is_new_u;
  target_listed = listed_in p.s.relations p.c copy.target.0 t completion is_t;
  source_listed = listed_in p.s.relations p.c copy.source.0 u completion is_u;
}
