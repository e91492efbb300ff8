-- The part as a whole.
use Rattle.std.proofs.Common.{◌≡◌, ◌∙◌, ℕ, List, Contains, Result, Ok, Err, OnOk, length, sym, ap, subst}
use Rattle.std.proofs.lemmas.List.Elements.{All-weaker}
use Rattle.std.proofs.lemmas.Option.{slice_get_within}
use Rattle.currency_base.specs.declared.ids.EntId.{EntId}
use Rattle.currency_base.specs.declared.ids.RowId.{RowId}
use Rattle.currency_base.specs.declared.pair.Pair.{Pair}
use Rattle.denial_rules.specs.Rules.{IsRuleOn}
use Rattle.denial_rules.specs.declared.rule.Rule.{Rule}
use Rattle.spec_model.specs.Facts.{IsCopyAmong, IsRuleOf, AreRules, IsSpecification}
use Rattle.spec_model.specs.Spec.{Spec}
use Rattle.spec_model.specs.declared.relation.Relation.{Relation}
use Rattle.part_laws.specs.Parts.{Places, IsPairPart, IsRelationPart, rows_in, entities_in}
use Rattle.part_laws.proofs.Rows.{entity_of_row}
use Rattle.spec_parts.specs.Built.{AreClosedPlaces, IsBuilt}
use Rattle.spec_parts.specs.Steps.{AreCuttable, ArePartsSoFar, IsPartSoFar, IsNamePart, Grows, HasGiven, AreClosedCopies, AreCopiesSoFar}
use Rattle.spec_parts.proofs.Cuttable.{cuttable}
use Rattle.spec_parts.proofs.CopyCuts.{kinds_same}
use Rattle.spec_parts.proofs.Pairing.{item_at, item_has, partner}
use Rattle.spec_parts.proofs.PartLists.{part_at}

-- ---- what is required of the steps

pub cuttable_places : (whole : Spec) (n : Places) → IsSpecification whole → AreClosedPlaces whole n
    → AreCuttable whole.relations n
cuttable_places whole n facts places = cuttable whole.relations places.0 n facts.relations places.1

pub rules_of_part : (whole : Spec) (n : Places) (part : List Relation) → AreRules whole.relations whole.rules
    → ArePartsSoFar whole.relations n (length whole.relations) part → AreRules part whole.rules
rules_of_part whole n part rules are = record {
  few = rules.few;
  each = All-weaker (IsRuleOf whole.relations) (IsRuleOf part) rule_of whole.rules rules.each;
  names = rules.names;
}
  where
    rule_of : (rule : Rule) → IsRuleOf whole.relations rule → IsRuleOf part rule
    rule_of rule is =
        let within = slice_get_within whole.relations rule.relation.0 is.relation is.is_relation in
        let new = part_at whole.relations n (length whole.relations) part are rule.relation.0 is.relation within is.is_relation in
        let same = kinds_same is.relation new.0 (rows_in n rule.relation.0) (entities_in n rule.relation.0) new.2 in
        record { relation = new.0; is_relation = new.1; fits = subst (λ ks. IsRuleOn ks rule) (sym same) is.fits }

pub closed_copies : (whole : Spec) (n : Places) → IsSpecification whole → AreClosedPlaces whole n → AreClosedCopies whole.copies n
closed_copies whole n facts places k copy at row from c mapped =
    let scope = places.0 in
    let among = item_has (IsCopyAmong whole.relations) whole.copies facts.copies.each k copy at in
    let is_in = (places.1.rows copy.target.0 among.target among.is_target row).0 c in
    let one = item_at among.source.rows from.0 (among.copied row from mapped).in_source in
    let of = entity_of_row among.source.rows from.0 one.0 one.1 in
    let same : scope copy.target.0 is_in.ent ≡ scope copy.source.0 one.0.entity.0 =
    places.2 k copy at among.target among.source among.is_target among.is_source row from mapped is_in.ent
    one.0.entity.0 is_in.is_of of in
    (places.1.rows copy.source.0 among.source among.is_source from).1
    (record { ent = one.0.entity.0; is_of = of; is_in = sym same ∙ is_in.is_in })

-- ---- what is built

relation_part : (r new : Relation) (rows : List RowId) (entities : List EntId) → IsPartSoFar r rows entities new
    → ((p old : Pair) → IsPairPart rows p old → Contains r.given old → Contains new.given p) → IsRelationPart r rows entities new
relation_part r new rows entities part all = record {
  name = part.name;
  attrs = part.attrs;
  per_row = part.rows.many;
  each_row = part.rows.each;
  per_entity = part.entities.many;
  each_entity = λ k ent at. let found = partner (IsNamePart r.entities) entities new.entities k ent part.entities
      at in found.1 ∙ sym
      found.2;
  given_are = part.given;
  given_all = all;
}

pub built : (whole : Spec) (n : Places) (part : Spec) → ArePartsSoFar whole.relations n (length whole.relations) part.relations
    → ((rel : ℕ) → HasGiven whole n part.relations rel) → part.rules ≡ whole.rules
    → AreCopiesSoFar n whole.copies (length whole.copies) part.copies → IsBuilt whole n part
built whole n part are given rules copies scope places closed = record {
  places = places;
  closed = closed;
  per_relation = are.many;
  relations = λ rel r new at at_new.
      relation_part r new (rows_in n rel) (entities_in n rel) (are.each rel r new at at_new) (given rel r at new at_new);
  rules = rules;
  per_copy = copies.many;
  copies = copies.each;
}

-- the same, from what each step says
pub built_by_steps : (whole : Spec) (n : Places) (bare given ruled part : Spec) → Grows whole n bare given
    → ((rel : ℕ) → HasGiven whole n given.relations rel) → ruled ≡ record given { rules = whole.rules }
    → AreCopiesSoFar n whole.copies (length whole.copies) part.copies → part.relations ≡ ruled.relations
    → part.rules ≡ ruled.rules
    → IsBuilt whole n part
built_by_steps whole n bare given ruled part grows has ruling copies same_relations same_rules =
    let relations : part.relations ≡ given.relations = same_relations ∙ ap (λ (s : Spec). s.relations) ruling in
    let rules : part.rules ≡ whole.rules = same_rules ∙ ap (λ (s : Spec). s.rules) ruling in
    built whole n part (subst (ArePartsSoFar whole.relations n (length whole.relations)) (sym relations) grows.so_far)
    (λ rel. subst (λ rs. HasGiven whole n rs rel) (sym relations) (has rel)) rules copies

-- three clauses of a call whose answer is handed on
pub on_ok_three : {T E : Type 0} (A B C D : Type 0) (result : Result T E) → OnOk result A → OnOk result B
    → OnOk result C → (A → B → C → D)
    → OnOk result D
on_ok_three A B C D (Ok x) a b c all = all a b c
on_ok_three A B C D (Err e) a b c all = tt
