-- A consistent completion of more items is one of fewer.
use Rattle.std.proofs.Common.{◌≡◌, ◌∙◌, ◌+◌, ◌<◌, ℕ, true, List, Some, Contains, length, slice_get, slice_index_or, [], sym, subst}
use Rattle.currency_base.specs.declared.ids.RowId.{RowId}
use Rattle.copy_functions.specs.Copies.{CopyFunction, source_at}
use Rattle.partial_orders.specs.Pairs.{entity_of}
use Rattle.spec_model.specs.Spec.{Spec}
use Rattle.spec_model.specs.Completion.{Rankings, lists_of, ranking_of, IsRanking, IsCompletion}
use Rattle.spec_model.specs.Satisfies.{SatisfiesRule}
use Rattle.spec_model.specs.Compatible.{AreCopiedTogether, IsCompatible}
use Rattle.spec_model.specs.Consistent.{KeepsGiven, SatisfiesRules, IsCompatibleWith, copying}
use Rattle.spec_model.specs.declared.relation.Relation.{Relation}
use Rattle.spec_items.specs.Items.{items_of}
use Rattle.spec_items.specs.Kept.{Keeps, kept_pairs, kept_relations, kept_rules, kept_copies}
use Rattle.spec_items.specs.Laws.{FewerItems}
use Rattle.spec_items.specs.declared.item.Item.{Item}
use Rattle.spec_items.specs.declared.item.Item.TheVariants as item
use Rattle.spec_items.proofs.Members.{place_of, in_at, contained, in_contained}
use Rattle.spec_items.proofs.Places.{kept_relation, whole_relation, relation_kept, as_many, whole_pair, pair_kept, whole_rule, rule_kept, kept_copy, whole_copy, copy_kept, whole_source, source_kept}
use Rattle.spec_items.proofs.Among.{given_item, rule_item, copy_item}

-- of the items, one keeps no more than the other
abbrev KeepsFewer : Spec → Keeps → Keeps → Type 0
KeepsFewer s keeps more = (i : Item) → Contains (items_of s) i → keeps i ≡ true → more i ≡ true

-- ---- completions

completed : (keeps more : Keeps) (rs : List Relation) (c : Rankings) → IsCompletion (kept_relations more 0 rs) c
    → IsCompletion (kept_relations keeps 0 rs) c
completed keeps more rs c completion = record {
  shape = record {
    per_relation = completion.shape.per_relation ∙ as_many more 0 rs ∙ sym (as_many keeps 0 rs);
    per_attr = λ rel r at.
        let of = whole_relation keeps rs rel r at in
        subst (λ (q : Relation). length (slice_index_or c rel []) ≡ length q.attrs) of.2
        (completion.shape.per_attr rel (kept_relation more rel of.0) (relation_kept more rs rel of.0 of.1));
    per_entity = λ rel r at.
        let of = whole_relation keeps rs rel r at in
        subst (λ (q : Relation). (attr : ℕ) → attr < length q.attrs → length (lists_of c rel attr) ≡ length q.entities) of.2
        (completion.shape.per_entity rel (kept_relation more rel of.0) (relation_kept more rs rel of.0 of.1));
  };
  ranked = λ rel r at.
      let of = whole_relation keeps rs rel r at in
      subst
      (λ (q : Relation). (attr ent : ℕ) → attr < length q.attrs → ent < length q.entities
      → IsRanking q.rows ent (ranking_of c rel attr ent))
      of.2
      (completion.ranked rel (kept_relation more rel of.0) (relation_kept more rs rel of.0 of.1));
}

-- ---- given pairs

given_kept : (s : Spec) (keeps more : Keeps) (c : Rankings) → KeepsFewer s keeps more
    → KeepsGiven (kept_relations more 0 s.relations) c → KeepsGiven (kept_relations keeps 0 s.relations) c
given_kept s keeps more c fewer given rel r at p is_in =
    let of = whole_relation keeps s.relations rel r at in
    let here = subst (λ (q : Relation). Contains q.given p) (sym of.2) is_in in
    let pair = whole_pair keeps rel of.0.given p (in_contained (kept_pairs keeps rel of.0.given) p here) in
    let is = fewer (item.Given (record { 0 = rel }) p) (given_item s rel of.0 p of.1 pair.0) pair.1 in
    given rel (kept_relation more rel of.0) (relation_kept more s.relations rel of.0 of.1) p
    (contained (kept_pairs more rel of.0.given) p (pair_kept more rel of.0.given p pair.0 is))

-- ---- rules

rules_kept : (s : Spec) (keeps more : Keeps) (c : Rankings) → KeepsFewer s keeps more
    → SatisfiesRules (kept_relations more 0 s.relations) (kept_rules more 0 s.rules) c
    → SatisfiesRules (kept_relations keeps 0 s.relations) (kept_rules keeps 0 s.rules) c
rules_kept s keeps more c fewer rules k rule at r at_r =
    let of = whole_relation keeps s.relations rule.relation.0 r at_r in
    let whole = whole_rule keeps 0 s.rules rule (in_at (kept_rules keeps 0 s.rules) k rule at) in
    let is = fewer (item.Rule (record { 0 = 0 + whole.0 })) (rule_item s whole.0 rule whole.1) whole.2 in
    let place = place_of (kept_rules more 0 s.rules) rule (rule_kept more 0 s.rules whole.0 rule whole.1 is) in
    subst (λ (q : Relation). SatisfiesRule q.rows (slice_index_or c rule.relation.0 []) rule) of.2
    (rules place.0 rule place.1 (kept_relation more rule.relation.0 of.0)
    (relation_kept more s.relations rule.relation.0 of.0 of.1))

-- ---- copy functions

-- a row that is mapped in the lesser one is mapped alike in the greater one
mapped_more : (s : Spec) (keeps more : Keeps) (k : ℕ) (copy : CopyFunction) (target : Relation) (row source : RowId) (ent : ℕ)
    → KeepsFewer s keeps more → slice_get s.copies k ≡ Some copy → slice_get s.relations copy.target.0 ≡ Some target
    → entity_of target.rows row.0 ≡ Some ent → source_at (kept_copy keeps k copy) row ≡ Some source
    → source_at (kept_copy more k copy) row ≡ Some source
mapped_more s keeps more k copy target row source ent fewer at at_target of_ent mapped =
    let whole = whole_source keeps k copy row source mapped in
    let is = fewer (item.Copy (record { 0 = k }) row) (copy_item s k copy target row source ent at at_target of_ent
    whole.1) whole.0 in
    source_kept more k copy row source is whole.1

compatible : (s : Spec) (keeps more : Keeps) (c : Rankings) (k : ℕ) (copy : CopyFunction) (target source : Relation)
    → KeepsFewer s keeps more → slice_get s.copies k ≡ Some copy → slice_get s.relations copy.target.0 ≡ Some target
    → IsCompatible (copying (kept_copy more k copy) target source c) → IsCompatible
    (copying (kept_copy keeps k copy) target source c)
compatible s keeps more c k copy target source fewer at at_target holds place_at place is first second rows before =
    let both : AreCopiedTogether (kept_copy more k copy) target.rows source.rows first second = record {
      first_source = rows.first_source;
      second_source = rows.second_source;
      first_is =
          mapped_more s keeps more k copy target first rows.first_source rows.ent fewer at at_target rows.first_of rows.first_is;
      second_is =
          mapped_more s keeps more k copy target second rows.second_source rows.ent fewer at at_target rows.second_of
          rows.second_is;
      ent = rows.ent;
      first_of = rows.first_of;
      second_of = rows.second_of;
      source_ent = rows.source_ent;
      first_source_of = rows.first_source_of;
      second_source_of = rows.second_source_of;
    } in
    holds place_at place is first second both before

-- a copy function and two relations that are kept
compatible_kept : (s : Spec) (keeps more : Keeps) (c : Rankings) (k : ℕ) (copy : CopyFunction) → KeepsFewer s keeps more
    → slice_get s.copies k ≡ Some copy → IsCompatibleWith (kept_relations more 0 s.relations) (kept_copies more 0 s.copies) c
    → (target source : Relation) → slice_get (kept_relations keeps 0 s.relations) copy.target.0 ≡ Some target
    → slice_get (kept_relations keeps 0 s.relations) copy.source.0 ≡ Some source
    → IsCompatible (copying (kept_copy keeps k copy) target source c)
compatible_kept s keeps more c k copy fewer at copies target source at_target at_source =
    let of_target = whole_relation keeps s.relations copy.target.0 target at_target in
    let of_source = whole_relation keeps s.relations copy.source.0 source at_source in
    let holds = copies k (kept_copy more k copy) (copy_kept more s.copies k copy at)
    (kept_relation more copy.target.0 of_target.0)
    (kept_relation more copy.source.0 of_source.0) (relation_kept more s.relations copy.target.0 of_target.0 of_target.1)
    (relation_kept more s.relations copy.source.0 of_source.0 of_source.1) in
    subst (λ (q : Relation). IsCompatible (copying (kept_copy keeps k copy) q source c)) of_target.2
    (subst (λ (q : Relation). IsCompatible (copying (kept_copy keeps k copy) (kept_relation keeps copy.target.0 of_target.0) q c))
    of_source.2
    (compatible s keeps more c k copy of_target.0 of_source.0 fewer at of_target.1 holds))

copies_kept : (s : Spec) (keeps more : Keeps) (c : Rankings) → KeepsFewer s keeps more
    → IsCompatibleWith (kept_relations more 0 s.relations) (kept_copies more 0 s.copies) c
    → IsCompatibleWith (kept_relations keeps 0 s.relations) (kept_copies keeps 0 s.copies) c
copies_kept s keeps more c fewer copies k copy at =
    let of = whole_copy keeps s.copies k copy at in
    subst
    (λ (q : CopyFunction). (target source : Relation) → slice_get (kept_relations keeps 0 s.relations) q.target.0 ≡ Some target
    → slice_get (kept_relations keeps 0 s.relations) q.source.0 ≡ Some source → IsCompatible (copying q target source c))
    of.2 (compatible_kept s keeps more c k of.0 fewer of.1 copies)

-- ---- all together

pub consistent_of_fewer : FewerItems
consistent_of_fewer s keeps more fewer c is = record {
  completion = completed keeps more s.relations c is.completion;
  given = given_kept s keeps more c fewer is.given;
  rules = rules_kept s keeps more c fewer is.rules;
  copies = copies_kept s keeps more c fewer is.copies;
}
