-- What a consistent completion of a part says of the entities in the scope, in the whole.
use Rattle.std.proofs.Common.{◌≡◌, ◌<◌, ◌∙◌, ℕ, List, Some, length, slice_get, refl, sym, ap, subst, arith}
use Rattle.std.proofs.lemmas.List.Elements.{All-contains}
use Rattle.std.proofs.lemmas.Option.{slice_get_within}
use Rattle.currency_base.specs.declared.ids.RelId.{RelId}
use Rattle.currency_base.specs.declared.pair.Pair.{Pair}
use Rattle.copy_functions.specs.declared.place.Place.{Place}
use Rattle.denial_rules.specs.declared.rule.Rule.{Rule}
use Rattle.spec_model.specs.Facts.{IsGivenPair}
use Rattle.spec_model.specs.Completion.{lists_of, ranking_of, IsRanking, IsCompletion, Before}
use Rattle.spec_model.specs.Consistent.{KeepsGiven, SatisfiesRules, IsCompatibleWith, IsConsistent}
use Rattle.part_laws.proofs.Rows.{entity_there, old_there}
use Rattle.part_laws.proofs.Listed.{ranking_whole, before_whole}
use Rattle.part_laws.proofs.Choices.{rule_whole}
use Rattle.part_laws.proofs.Copied.{matched_part, keeps_whole}
use Rattle.part_laws.proofs.Cuts.{Parted, IsParted, cut_at, is_cut, as_many_attrs, part_there, listed_in}
use Rattle.part_laws.proofs.Fitting.{rule_fits, place_inside, copy_part_there, copied_at, is_copied}
use Rattle.part_laws.proofs.Scoped.{IsRankedIn, KeepsGivenIn, SatisfiesRulesIn, IsCompatibleIn, IsKeptIn}

pub ranked_from_part : (p : Parted) → IsParted p → IsCompletion p.part.relations p.narrow → IsRankedIn p.s.relations p.scope p.c
ranked_from_part p is completion rel r at attr ent inside below scoped =
    let new = part_there p rel r is at in
    let k = cut_at p rel r new.0 in
    let cut = is_cut p rel r new.0 is at new.1 in
    let found = entity_there k ent cut below scoped in
    let attr_in : attr < length new.0.attrs = omega (arith, inside, as_many_attrs p rel r new.0 is at new.1) in
    let ent_in : found.0 < length new.0.entities =
    (let listed = slice_get_within k.entities found.0 found.1 found.2 in omega (arith, listed, cut.is_part.per_entity)) in
    subst (λ (n : ℕ). IsRanking r.rows n (ranking_of p.c rel attr n)) found.3
    (ranking_whole k attr found.0 found.1 cut inside found.2 (completion.ranked rel new.0 new.1 attr found.0 attr_in ent_in))

-- both rows of a given pair are of one entity
given_from_part : (p : Parted) → IsParted p → KeepsGiven p.part.relations p.narrow → KeepsGivenIn p.s.relations p.scope p.c
given_from_part p is keeps rel r at pair among ent of scoped =
    let new = part_there p rel r is at in
    let k = cut_at p rel r new.0 in
    let cut = is_cut p rel r new.0 is at new.1 in
    let fits = All-contains (IsGivenPair r) r.given pair cut.facts.given among in
    let a = old_there k pair.earlier ent cut of scoped in
    let b = old_there k pair.later ent cut (sym fits.one_entity.1 ∙ of) scoped in
    let made : Pair = record { attr = pair.attr; earlier = a.0; later = b.0 } in
    before_whole k pair.attr.0 a.0 b.0 pair.earlier pair.later cut fits.attr a.1 b.1
    (keeps rel new.0 new.1 made (cut.is_part.given_all made pair (record { attr = refl; earlier = a.1; later = b.1 }) among))

rules_from_part : (p : Parted) → IsParted p → IsCompletion p.s.relations p.c → SatisfiesRules p.part.relations
    p.part.rules p.narrow
    → SatisfiesRulesIn p.s p.scope p.c
rules_from_part p is completion satisfied at rule is_rule r at_r rows choice scoped =
    let rel = rule.relation.0 in
    let new = part_there p rel r is at_r in
    let is_new : slice_get p.part.rules at ≡ Some rule = ap (λ (l : List Rule). slice_get l at) is.of.rules ∙ is_rule in
    rule_whole (cut_at p rel r new.0) rule (is_cut p rel r new.0 is at_r new.1)
    (listed_in p.s.relations p.c rel r completion at_r)
    (rule_fits p.s at rule r is.whole_is is_rule at_r) (satisfied at rule is_new new.0 new.1) rows choice scoped

-- the sources of rows that are in the scope are in it too
copies_from_part : (p : Parted) → IsParted p → IsCompletion p.s.relations p.c → IsCompatibleWith p.part.relations
    p.part.copies p.narrow
    → IsCompatibleIn p.s p.scope p.c
copies_from_part p is completion compatible at copy is_copy t u is_t is_u place_at place is_place first second rows scoped =
    let new = copy_part_there p at copy is is_copy in
    let of = is.of.copies at copy new.0 is_copy new.1 in
    let new_t = part_there p copy.target.0 t is is_t in
    let new_u = part_there p copy.source.0 u is is_u in
    let d = copied_at p copy new.0 t new_t.0 u new_u.0 in
    let copied = is_copied p at copy new.0 t new_t.0 u new_u.0 is completion is_copy new.1 is_t new_t.1 is_u new_u.1 in
    let inside = place_inside p.s at copy t u place_at place is.whole_is is_copy is_t is_u is_place in
    let one = is.of.closed at copy is_copy t u is_t is_u first rows.first_source rows.first_is rows.ent rows.source_ent
    rows.first_of rows.first_source_of in
    let matched = matched_part d first second copied rows scoped (sym one ∙ scoped) in
    let part = matched.2 in
    let at_t = ap (λ (x : RelId). slice_get p.part.relations x.0) of.target ∙ new_t.1 in
    let at_u = ap (λ (x : RelId). slice_get p.part.relations x.0) of.source ∙ new_u.1 in
    let at_place = ap (λ (l : List Place). slice_get l place_at) of.places ∙ is_place in
    keeps_whole d place.target.0 place.source.0 matched.0 matched.1 first second part rows copied inside.target
    inside.source matched.3
    (λ before.
    subst (λ (x : RelId). Before (lists_of p.narrow x.0 place.target.0) matched.0 matched.1) of.target
    (compatible at new.0 new.1 new_t.0 new_u.0 at_t at_u place_at place at_place matched.0 matched.1 part
    (subst (λ (x : RelId). Before (lists_of p.narrow x.0 place.source.0) part.first_source part.second_source)
    (sym of.source) before)))

pub kept_from_part : (p : Parted) → IsParted p → IsCompletion p.s.relations p.c → IsConsistent p.part p.narrow
    → IsKeptIn p.s p.scope p.c
kept_from_part p is completion consistent = record {
  given = given_from_part p is consistent.given;
  rules = rules_from_part p is completion consistent.rules;
  copies = copies_from_part p is completion consistent.copies;
}
