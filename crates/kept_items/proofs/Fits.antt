-- The marked items of a specification are relations, rules and copy functions of one.
use Rattle.std.proofs.Common.{◌≡◌, ◌∙◌, ◌+◌, ◌<◌, ◌^◌, ℕ, zero, suc, Bool, List, [], ◌∷◌, ◌++◌, All, Some, length, map, slice_get, refl, sym, ap, ap₂, subst, arith}
use Rattle.std.proofs.lemmas.List.{length-append}
use Rattle.std.proofs.lemmas.List.Elements.{All-weaker}
use Rattle.std.proofs.lemmas.Option.{none-some, same_Some}
use Rattle.currency_base.specs.Lists.{OnlyOnce}
use Rattle.copy_functions.specs.Copies.{CopyFunction, IsCopied, IsCopyOf}
use Rattle.currency_base.specs.declared.pair.Pair.{Pair}
use Rattle.currency_base.specs.declared.row.Row.{Row}
use Rattle.copy_functions.specs.declared.place.Place.{Place}
use Rattle.denial_rules.specs.declared.rule.Rule.{Rule}
use Rattle.spec_model.specs.Facts.{IsGivenPair, IsRelation, AreRelations, IsRuleOf, AreRules, IsPlaceBetween, IsCopyAmong, AreCopies}
use Rattle.spec_model.specs.declared.relation.Relation.{Relation}
use Rattle.kept_items.specs.Steps.{marked, marked_relation, marked_relations, marked_rows, marked_copies, mapped_count, target_count}
use Rattle.kept_items.proofs.Filtered.{marked_all, marked_few, marked_once}
use Rattle.kept_items.proofs.Places.{each_has, item_has, all_front, once_front}
use Rattle.kept_items.proofs.Rows.{rows_of_copy, mapped_so}

-- ---- relations

module _ (marks : List Bool) where
  relations_many : (at : ℕ) (rs : List Relation) → length (marked_relations marks at rs) ≡ length rs
  relations_many at [] = refl
  relations_many at (r ∷ rs) = ap suc (relations_many (at + length r.given) rs)

  relation_names : (at : ℕ) (rs : List Relation) → map (λ r. r.name) (marked_relations marks at rs) ≡ map (λ r. r.name) rs
  relation_names at [] = refl
  relation_names at (r ∷ rs) = ap (λ (ns : List (List ℕ)). r.name ∷ ns) (relation_names (at + length r.given) rs)

  -- what stands at a place, and how it is there in the whole
  pub relation_at : (at : ℕ) (rs : List Relation) (k : ℕ) (r : Relation) → slice_get rs k ≡ Some r
      → (n : ℕ) × (slice_get (marked_relations marks at rs) k ≡ Some (marked_relation marks n r))
  relation_at at [] k r is = absurd (none-some r is)
  relation_at at (q ∷ rs) zero r is = (at, ap (λ (z : Relation). Some (marked_relation marks at z)) (same_Some q r is))
  relation_at at (q ∷ rs) (suc k) r is = relation_at (at + length q.given) rs k r is

  of_relation : (at : ℕ) (rs : List Relation) (k : ℕ) (new : Relation) → slice_get (marked_relations marks at rs) k ≡ Some new
      → (n : ℕ) × (r : Relation) × (slice_get rs k ≡ Some r) × (marked_relation marks n r ≡ new)
  of_relation at [] k new is = absurd (none-some new is)
  of_relation at (q ∷ rs) zero new is = (at, q, refl, same_Some (marked_relation marks at q) new is)
  of_relation at (q ∷ rs) (suc k) new is = of_relation (at + length q.given) rs k new is

  is_given : (n : ℕ) (r : Relation) (p : Pair) → IsGivenPair r p → IsGivenPair (marked_relation marks n r) p
  is_given n r p is = record { attr = is.attr; earlier = is.earlier; later = is.later; one_entity = is.one_entity }

  is_relation : (n : ℕ) (r : Relation) → IsRelation r → IsRelation (marked_relation marks n r)
  is_relation n r is = record {
    few_attrs = is.few_attrs;
    few_rows = is.few_rows;
    few_entities = is.few_entities;
    entities = is.entities;
    inhabited = is.inhabited;
    values = is.values;
    attr_names = is.attr_names;
    row_names = is.row_names;
    entity_names = is.entity_names;
    given = marked_all (IsGivenPair (marked_relation marks n r)) marks n r.given
        (All-weaker (IsGivenPair r) (IsGivenPair (marked_relation marks n r)) (is_given n r) r.given is.given);
  }

  pub are_relations : (at : ℕ) (rs : List Relation) → AreRelations rs → AreRelations (marked_relations marks at rs)
  are_relations at rs are = record {
    few = omega (arith, relations_many at rs, are.few);
    each = each_has IsRelation (marked_relations marks at rs) (λ k new is.
        let of = of_relation at rs k new is in
        subst IsRelation of.3 (is_relation of.0 of.1 (item_has IsRelation rs are.each k of.1 of.2)));
    names = subst OnlyOnce (sym (relation_names at rs)) are.names;
  }

  -- ---- rules

  rule_of : (at : ℕ) (rs : List Relation) (rule : Rule) → IsRuleOf rs rule → IsRuleOf (marked_relations marks at rs) rule
  rule_of at rs rule is =
      let now = relation_at at rs rule.relation.0 is.relation is.is_relation in
      record { relation = marked_relation marks now.0 is.relation; is_relation = now.1; fits = is.fits }

  pub are_rules : (from at : ℕ) (rs : List Relation) (rules : List Rule) → AreRules rs rules
      → AreRules (marked_relations marks from rs) (marked marks at rules)
  are_rules from at rs rules are = record {
    few = omega (arith, marked_few marks at rules, are.few);
    each = marked_all (IsRuleOf (marked_relations marks from rs)) marks at rules
        (All-weaker (IsRuleOf rs) (IsRuleOf (marked_relations marks from rs)) (rule_of from rs) rules are.each);
    names = marked_once (λ (rule : Rule). rule.name) marks at rules are.names;
  }

  -- ---- copy functions

  copies_many : (relations : List Relation) (at : ℕ) (copies : List CopyFunction)
      → length (marked_copies relations marks at copies) ≡ length copies
  copies_many relations at [] = refl
  copies_many relations at (copy ∷ copies) =
      ap suc (copies_many relations (at + mapped_count copy (target_count relations copy)) copies)

  copy_names : (relations : List Relation) (at : ℕ) (copies : List CopyFunction)
      → map (λ copy. copy.name) (marked_copies relations marks at copies) ≡ map (λ copy. copy.name) copies
  copy_names relations at [] = refl
  copy_names relations at (copy ∷ copies) =
      ap₂ (λ (n : List ℕ) (ns : List (List ℕ)). n ∷ ns) (rows_of_copy marks at copy (target_count relations copy)).name
      (copy_names relations (at + mapped_count copy (target_count relations copy)) copies)

  of_copy : (relations : List Relation) (at : ℕ) (copies : List CopyFunction) (k : ℕ) (new : CopyFunction)
      → slice_get (marked_copies relations marks at copies) k ≡ Some new
      → (n : ℕ) × (copy : CopyFunction) × (slice_get copies k ≡ Some copy)
      × (marked_rows marks n copy (target_count relations copy) ≡ new)
  of_copy relations at [] k new is = absurd (none-some new is)
  of_copy relations at (copy ∷ copies) zero new is =
      (at, copy, refl, same_Some (marked_rows marks at copy (target_count relations copy)) new is)
  of_copy relations at (copy ∷ copies) (suc k) new is =
      of_copy relations (at + mapped_count copy (target_count relations copy)) copies k new is

  copied : (at : ℕ) (copy : CopyFunction) (rows : ℕ) (targets sources : List Row) → IsCopied copy targets sources
      → IsCopied (marked_rows marks at copy rows) targets sources
  copied at copy rows targets sources is row source maps =
      subst (λ places. IsCopyOf places targets sources row source) (sym (rows_of_copy marks at copy rows).places)
      (is row source (mapped_so marks at copy rows row source maps))

  place_between : (n m : ℕ) (target source : Relation) (place : Place) → IsPlaceBetween target source place
      → IsPlaceBetween (marked_relation marks n target) (marked_relation marks m source) place
  place_between n m target source place is = record { kind = is.kind; in_target = is.in_target; in_source = is.in_source }

  copy_among : (from at : ℕ) (rs : List Relation) (copy : CopyFunction) (rows : ℕ) → IsCopyAmong rs copy
      → IsCopyAmong (marked_relations marks from rs) (marked_rows marks at copy rows)
  copy_among from at rs copy rows is =
      let of = rows_of_copy marks at copy rows in
      let target = relation_at from rs copy.target.0 is.target is.is_target in
      let source = relation_at from rs copy.source.0 is.source is.is_source in
      record {
        target = marked_relation marks target.0 is.target;
        source = marked_relation marks source.0 is.source;
        is_target = ap (λ t. slice_get (marked_relations marks from rs) t.0) of.target ∙ target.1;
        is_source = ap (λ t. slice_get (marked_relations marks from rs) t.0) of.source ∙ source.1;
        places = subst
            (All (IsPlaceBetween (marked_relation marks target.0 is.target) (marked_relation marks source.0 is.source)))
            (sym of.places)
            (All-weaker (IsPlaceBetween is.target is.source)
            (IsPlaceBetween (marked_relation marks target.0 is.target) (marked_relation marks source.0 is.source))
            (place_between target.0 source.0 is.target is.source) copy.places is.places);
        copied = copied at copy rows is.target.rows is.source.rows is.copied;
      }

  pub are_copies : (from at : ℕ) (rs : List Relation) (copies : List CopyFunction) → AreCopies rs copies
      → AreCopies (marked_relations marks from rs) (marked_copies rs marks at copies)
  are_copies from at rs copies are = record {
    few = omega (arith, copies_many rs at copies, are.few);
    each = each_has (IsCopyAmong (marked_relations marks from rs)) (marked_copies rs marks at copies) (λ k new is.
        let of = of_copy rs at copies k new is in
        subst (IsCopyAmong (marked_relations marks from rs)) of.3
        (copy_among from of.0 rs of.1 (target_count rs of.1) (item_has (IsCopyAmong rs) copies are.each k of.1 of.2)));
    names = subst OnlyOnce (sym (copy_names rs at copies)) are.names;
  }

-- ---- the first of them

front_few : {A : Type 0} (xs ys : List A) → length (xs ++ ys) + 1 < 2 ^ 32 → length xs + 1 < 2 ^ 32
front_few xs ys few = omega (arith, length-append xs ys, few)

pub relations_front : (xs ys : List Relation) → AreRelations (xs ++ ys) → AreRelations xs
relations_front xs ys are = record {
  few = front_few xs ys are.few;
  each = all_front IsRelation xs ys are.each;
  names = once_front (λ (r : Relation). r.name) xs ys are.names;
}

pub rules_front : (relations : List Relation) (xs ys : List Rule) → AreRules relations (xs ++ ys) → AreRules relations xs
rules_front relations xs ys are = record {
  few = front_few xs ys are.few;
  each = all_front (IsRuleOf relations) xs ys are.each;
  names = once_front (λ (rule : Rule). rule.name) xs ys are.names;
}

pub copies_front : (relations : List Relation) (xs ys : List CopyFunction) → AreCopies relations (xs ++ ys)
    → AreCopies relations xs
copies_front relations xs ys are = record {
  few = front_few xs ys are.few;
  each = all_front (IsCopyAmong relations) xs ys are.each;
  names = once_front (λ (copy : CopyFunction). copy.name) xs ys are.names;
}
