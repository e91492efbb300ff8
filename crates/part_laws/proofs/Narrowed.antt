-- What a consistent completion of the whole says of a part's rows is a consistent completion of the part.
use Rattle.std.proofs.Common.{◌≡◌, ◌<◌, ◌∙◌, ℕ, List, Some, length, slice_get, sym, ap, subst, arith}
use Rattle.std.proofs.lemmas.List.Elements.{All-contains}
use Rattle.currency_base.specs.declared.ids.AttrId.{AttrId}
use Rattle.currency_base.specs.declared.ids.RelId.{RelId}
use Rattle.copy_functions.specs.declared.place.Place.{Place}
use Rattle.denial_rules.specs.declared.rule.Rule.{Rule}
use Rattle.spec_model.specs.Facts.{IsGivenPair}
use Rattle.spec_model.specs.Completion.{lists_of, ranking_of, IsRanking, IsCompletion, Before}
use Rattle.spec_model.specs.Consistent.{KeepsGiven, SatisfiesRules, IsCompatibleWith}
use Rattle.spec_model.specs.declared.relation.Relation.{Relation}
use Rattle.part_laws.specs.Laws.{PartsNarrow}
use Rattle.part_laws.proofs.Rows.{at_place, there}
use Rattle.part_laws.proofs.Listed.{ranking_part, before_part}
use Rattle.part_laws.proofs.Choices.{rule_part}
use Rattle.part_laws.proofs.Copied.{matched_whole, keeps_part}
use Rattle.part_laws.proofs.Cuts.{Parted, IsParted, cut_at, is_cut, as_many_attrs, whole_there, listed_in}
use Rattle.part_laws.proofs.Fitting.{rule_fits, place_inside, copy_there, copied_at, is_copied}

ranked_narrow : (p : Parted) → IsParted p → IsCompletion p.s.relations p.c → (rel : ℕ) (new : Relation)
    → slice_get p.part.relations rel ≡ Some new
    → (attr ent : ℕ) → attr < length new.attrs → ent < length new.entities → IsRanking new.rows ent
    (ranking_of p.narrow rel attr ent)
ranked_narrow p is completion rel new at_new attr ent inside below =
    let r = whole_there p rel new is at_new in
    let k = cut_at p rel r.0 new in
    let cut = is_cut p rel r.0 new is r.1 at_new in
    let attr_in : attr < length r.0.attrs = omega (arith, inside, as_many_attrs p rel r.0 new is r.1 at_new) in
    let old = there k.entities ent (omega (arith, below, cut.is_part.per_entity)) in
    let ent_in = ((cut.entities_are old.0).0 (at_place k.entities ent old.0 old.1)).0 in
    ranking_part k attr ent old.0 cut attr_in old.1 (completion.ranked rel r.0 r.1 attr old.0.0 attr_in ent_in)

given_narrow : (p : Parted) → IsParted p → IsCompletion p.s.relations p.c → KeepsGiven p.s.relations p.c
    → KeepsGiven p.part.relations p.narrow
given_narrow p is completion keeps rel new at_new pair among =
    let r = whole_there p rel new is at_new in
    let k = cut_at p rel r.0 new in
    let cut = is_cut p rel r.0 new is r.1 at_new in
    let old = cut.is_part.given_are pair among in
    let inside = (All-contains (IsGivenPair r.0) r.0.given old.0 cut.facts.given old.2).attr in
    subst (λ (a : AttrId). Before (lists_of p.narrow rel a.0) pair.earlier pair.later) (sym old.1.attr)
    (before_part k old.0.attr.0 pair.earlier pair.later old.0.earlier old.0.later cut inside
    (listed_in p.s.relations p.c rel r.0 completion r.1 old.0.attr.0 inside) old.1.earlier old.1.later
    (keeps rel r.0 r.1 old.0 old.2))

rules_narrow : (p : Parted) → IsParted p → IsCompletion p.s.relations p.c → SatisfiesRules p.s.relations p.s.rules p.c
    → SatisfiesRules p.part.relations p.part.rules p.narrow
rules_narrow p is completion satisfied at rule is_new new at_new =
    let is_rule : slice_get p.s.rules at ≡ Some rule = sym (ap (λ (l : List Rule). slice_get l at) is.of.rules) ∙ is_new in
    let rel = rule.relation.0 in
    let r = whole_there p rel new is at_new in
    rule_part (cut_at p rel r.0 new) rule (is_cut p rel r.0 new is r.1 at_new)
    (listed_in p.s.relations p.c rel r.0 completion r.1)
    (rule_fits p.s at rule r.0 is.whole_is is_rule r.1) (satisfied at rule is_rule r.0 r.1)

copies_narrow : (p : Parted) → IsParted p → IsCompletion p.s.relations p.c → IsCompatibleWith p.s.relations p.s.copies p.c
    → IsCompatibleWith p.part.relations p.part.copies p.narrow
copies_narrow p is completion compatible at new is_new target source is_target is_source place_at place is_place
    first second rows before =
    let copy = copy_there p at new is is_new in
    let of = is.of.copies at copy.0 new copy.1 is_new in
    let at_target : slice_get p.part.relations copy.0.target.0 ≡ Some target =
    sym (ap (λ (x : RelId). slice_get p.part.relations x.0) of.target) ∙ is_target in
    let at_source : slice_get p.part.relations copy.0.source.0 ≡ Some source =
    sym (ap (λ (x : RelId). slice_get p.part.relations x.0) of.source) ∙ is_source in
    let t = whole_there p copy.0.target.0 target is at_target in
    let u = whole_there p copy.0.source.0 source is at_source in
    let d = copied_at p copy.0 new t.0 target u.0 source in
    let copied = is_copied p at copy.0 new t.0 target u.0 source is completion copy.1 is_new t.1 at_target u.1 at_source in
    let at_place : slice_get copy.0.places place_at ≡ Some place =
    sym (ap (λ (l : List Place). slice_get l place_at) of.places) ∙ is_place in
    let inside = place_inside p.s at copy.0 t.0 u.0 place_at place is.whole_is copy.1 t.1 u.1 at_place in
    let matched = matched_whole d first second copied rows in
    subst (λ (x : RelId). Before (lists_of p.narrow x.0 place.target.0) first second) (sym of.target)
    (keeps_part d place.target.0 place.source.0 first second matched.0 matched.1 rows matched.2 copied inside.target
    inside.source matched.3
    (compatible at copy.0 copy.1 t.0 u.0 t.1 u.1 place_at place at_place matched.0 matched.1 matched.2)
    (subst (λ (x : RelId). Before (lists_of p.narrow x.0 place.source.0) rows.first_source rows.second_source) of.source before))

pub parts_narrow : PartsNarrow
parts_narrow s scope n part c narrow whole_is of shape narrowed consistent =
    let p : Parted = record { s = s; scope = scope; n = n; part = part; c = c; narrow = narrow } in
    let is : IsParted p = record { whole_is = whole_is; of = of; shape = shape; narrowed = narrowed } in
    record {
      completion = record { shape = shape; ranked = ranked_narrow p is consistent.completion };
      given = given_narrow p is consistent.completion consistent.given;
      rules = rules_narrow p is consistent.completion consistent.rules;
      copies = copies_narrow p is consistent.completion consistent.copies;
    }
