use Rattle.std.proofs.Common.{◌≡◌, ◌<◌, ◌∙◌, ℕ, [], Some, length, slice_get, slice_index_or, sym, subst, arith}
use Rattle.std.proofs.lemmas.Option.{same_Some, slice_get_within}
use Rattle.denial_rules.specs.declared.rule.Rule.{Rule}
use Rattle.entity_rows.specs.Members.{AreEntityRows}
use Rattle.spec_model.specs.declared.relation.Relation.{Relation}
use Rattle.completion_check.specs.Breaks.{NoChoiceBreaks, IsFirstBreak, tried}
use Rattle.completion_check.specs.Room.{HasPlaces}
use Rattle.completion_check.specs.Tests.{Places}
use Rattle.completion_check.proofs.Kept.{each_at_more}
use Rattle.completion_check.proofs.Ranked.{no_earlier_rule}
use Rattle.completion_check.proofs.RuleReads.{rule_read, rule_within, kept_read}
use Rattle.completion_check.proofs.check.check_rules.Goals as goal

pub bounds-relations-rel : goal.bounds-relations-rel
bounds-relations-rel c =
    rule_within c.args.relations.now c.args.rules.now c.loop-at.at c.index-rules-at.result c.requires.rules c.loop-at-test.true
    c.index-rules-at.is

pub bounds-places-rel : goal.bounds-places-rel
bounds-places-rel c =
    let within =
    rule_within c.args.relations.now c.args.rules.now c.loop-at.at c.index-rules-at.result c.requires.rules c.loop-at-test.true
    c.index-rules-at.is in
    subst (λ (n : ℕ). c.index-rules-at.result.relation.0 < n) (sym c.requires.places.per_relation) within

pub bounds-members-rel : goal.bounds-members-rel
bounds-members-rel c =
    let within =
    rule_within c.args.relations.now c.args.rules.now c.loop-at.at c.index-rules-at.result c.requires.rules c.loop-at-test.true
    c.index-rules-at.is in
    subst (λ (n : ℕ). c.index-rules-at.result.relation.0 < n) (sym c.requires.members.per_relation) within

pub broken_rows-requires-clause-rule : goal.broken_rows-requires-clause-rule
broken_rows-requires-clause-rule c =
    (rule_read c.args.relations.now c.args.rules.now c.loop-at.at c.index-rules-at.result c.index-relations-rel.result
    c.requires.relations
    c.requires.rules c.loop-at-test.true c.index-rules-at.is c.index-relations-rel.is).fits

pub broken_rows-requires-clause-relation : goal.broken_rows-requires-clause-relation
broken_rows-requires-clause-relation c =
    (rule_read c.args.relations.now c.args.rules.now c.loop-at.at c.index-rules-at.result c.index-relations-rel.result
    c.requires.relations
    c.requires.rules c.loop-at-test.true c.index-rules-at.is c.index-relations-rel.is).is

pub broken_rows-requires-clause-places : goal.broken_rows-requires-clause-places
broken_rows-requires-clause-places c =
    let rs = c.args.relations.now in
    let rel = c.index-rules-at.result.relation.0 in
    let r = c.index-relations-rel.result in
    let of = rule_read c.args.relations.now c.args.rules.now c.loop-at.at c.index-rules-at.result c.index-relations-rel.result
    c.requires.relations
    c.requires.rules c.loop-at-test.true c.index-rules-at.is c.index-relations-rel.is in
    let own = kept_read rs c.args.places.now rel c.index-places-rel.result c.requires.places.per_relation of.within
    c.index-places-rel.is in
    subst (HasPlaces r) (sym own) (c.requires.places.each rel r of.is_relation)

pub broken_rows-requires-clause-members : goal.broken_rows-requires-clause-members
broken_rows-requires-clause-members c =
    let rs = c.args.relations.now in
    let rel = c.index-rules-at.result.relation.0 in
    let r = c.index-relations-rel.result in
    let of = rule_read c.args.relations.now c.args.rules.now c.loop-at.at c.index-rules-at.result c.index-relations-rel.result
    c.requires.relations
    c.requires.rules c.loop-at-test.true c.index-rules-at.is c.index-relations-rel.is in
    let own = c.as_slice-own.ensures ∙ kept_read rs c.args.members.now rel c.index-members-rel.result
    c.requires.members.per_relation of.within c.index-members-rel.is in
    subst (AreEntityRows r.rows (length r.entities)) (sym own) (c.requires.members.each rel r of.is_relation)

pub returns-in-Some-clause-err : goal.returns-in-Some-clause-err
returns-in-Some-clause-err c =
    let rule = c.index-rules-at.result in
    let rs = c.args.relations.now in
    let rel = rule.relation.0 in
    let r = c.index-relations-rel.result in
    let of = rule_read c.args.relations.now c.args.rules.now c.loop-at.at c.index-rules-at.result c.index-relations-rel.result
    c.requires.relations
    c.requires.rules c.loop-at-test.true c.index-rules-at.is c.index-relations-rel.is in
    let own = kept_read rs c.args.places.now rel c.index-places-rel.result c.requires.places.per_relation of.within
    c.index-places-rel.is in
    record {
      rule = rule;
      is_rule = of.is_rule;
      relation = r;
      is_relation = of.is_relation;
      first = subst (λ (ps : Places). IsFirstBreak (tried rule r ps) c.in-Some.rows) own c.in-Some.ensures.some;
      earlier = no_earlier_rule rs c.args.rules.now c.args.places.now c.loop-at.at c.loop-at.invariant;
    }

pub loop-at-preserved : goal.loop-at-preserved
loop-at-preserved c =
    let rule = c.index-rules-at.result in
    let rs = c.args.relations.now in
    let rel = rule.relation.0 in
    let r = c.index-relations-rel.result in
    let of = rule_read c.args.relations.now c.args.rules.now c.loop-at.at c.index-rules-at.result c.index-relations-rel.result
    c.requires.relations
    c.requires.rules c.loop-at-test.true c.index-rules-at.is c.index-relations-rel.is in
    let own = kept_read rs c.args.places.now rel c.index-places-rel.result c.requires.places.per_relation of.within
    c.index-places-rel.is in
    let here : NoChoiceBreaks (tried rule r (slice_index_or c.args.places.now rel [])) =
    subst (λ (ps : Places). NoChoiceBreaks (tried rule r ps)) own c.in_default.ensures.none in
    each_at_more (λ _ (q : Rule). (s : Relation) → slice_get rs q.relation.0 ≡ Some s → NoChoiceBreaks
    (tried q s (slice_index_or c.args.places.now q.relation.0 [])))
    c.args.rules.now c.loop-at.at rule of.is_rule
    (λ s at. subst (λ (x : Relation). NoChoiceBreaks (tried rule x (slice_index_or c.args.places.now rel []))) (same_Some r s
    (sym of.is_relation ∙ at)) here)
    c.loop-at.invariant

pub returns-clause-ok : goal.returns-clause-ok
returns-clause-ok c = λ k rule at. c.loop-at.invariant k rule (omega (arith, slice_get_within c.args.rules.now k rule at)) at
